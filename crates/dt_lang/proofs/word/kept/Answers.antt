-- What is to be shown of `kept`.
use Rattle.dt_lang.specs.laws.Words.{kept_is}
use Rattle.dt_lang.proofs.word.kept.Goals as goal

pub returns : goal.returns
returns c = kept_is _ _ c.new.ensures.valid c.new.ensures.value
