-- Private to the proofs.
-- The words of the table of those that the language knows.
use Rattle.dt_lang.specs.declared.word.KnownWord.{KnownWord}
use Rattle.dt_lang.specs.declared.word.KnownWord.TheVariants as known
use Rattle.dt_lang.specs.declared.word.Word.{Word}
use Rattle.dt_lang.specs.declared.word.Word.TheVariants as word

-- the word that it is
abbrev pub as_word : KnownWord → Word
as_word (known.Action a) = word.Action a
as_word (known.Function f) = word.Function f
as_word (known.Destructive d) = word.Destructive d
as_word (known.Keyword k) = word.Keyword k
as_word (known.Number v) = word.Number v
as_word (known.Text v) = word.Text v
