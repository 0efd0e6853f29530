-- The reading of each text, for the definitions of crates above.
use Rattle.std.proofs.Common.{ℕ, List}
use Rattle.dt_lang.specs.Reads.{Reading, Reads}
use Rattle.dt_lang.specs.laws.Lexemes.{some_lexed, one_lexed, lexed_within}
use Rattle.dt_program.specs.laws.SomeDescription.{some_description, one_description}
use Rattle.dt_lang.specs.laws.TextLaws as texts

pub some_reading : (text : List ℕ) → (reading : Reading) × Reads text reading
some_reading text = texts.some_reading text (record {
  one = one_lexed one_description text;
  some = λ mode from fits. some_lexed some_description text mode from;
  within = lexed_within text;
})
