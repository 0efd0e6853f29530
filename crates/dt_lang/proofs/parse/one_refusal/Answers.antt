-- By the laws of lexemes.
use Rattle.dt_lang.specs.laws.TextLaws.{one_refusal}
use Rattle.dt_lang.proofs.parse.one_refusal.Goals as goal

pub returns : goal.returns
returns c = λ text at end at2 end2 cause cause2 h k. one_refusal text (record {
  one = c.one_lexeme.ensures.one text;
  some = c.some_lexeme.ensures text;
  within = c.one_lexeme.ensures.within text;
}) at end at2 end2 cause cause2 h k
