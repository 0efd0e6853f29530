-- What is to be shown of `reading_by_tokens`.
use Rattle.dt_lang.specs.laws.ExpressionLaws.{complete, complete_argument, sound, sound_argument, viable}
use Rattle.dt_lang.proofs.expression_laws.reading_by_tokens.Goals as goal

pub returns : goal.returns
returns c = record {
  complete = complete;
  sound = sound;
  complete_argument = complete_argument;
  sound_argument = sound_argument;
  viable = viable;
}
