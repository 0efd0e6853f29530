-- What is to be shown of `refusals_are_plain`.
use Rattle.dt_front.proofs.PlainRefusals.{caret_lines, sentence_lines}
use Rattle.dt_front.proofs.laws.refusals_are_plain.Goals as goal

pub returns : goal.returns
returns c = record { sentences = sentence_lines; carets = caret_lines }
