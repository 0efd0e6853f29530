-- By the laws of lexemes.
use Rattle.dt_lang.specs.laws.TextLaws.{one_reading}
use Rattle.dt_lang.proofs.parse.one_reading.Goals as goal

pub returns : goal.returns
returns c = λ text a b h k. one_reading text (record {
  one = c.one_lexeme.ensures.one text;
  some = c.some_lexeme.ensures text;
  within = c.one_lexeme.ensures.within text;
}) a b h k
