-- What a look names is computed as the relation says.
use Rattle.dt_chain.specs.laws.Tests.{mask_is_look}
use Rattle.dt_chain.proofs.laws.tests_agree.Goals as goal

pub returns : goal.returns
returns c = mask_is_look
