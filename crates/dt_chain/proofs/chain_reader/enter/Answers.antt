use Rattle.dt_chain.proofs.Rises.{enters}
use Rattle.dt_chain.proofs.chain_reader.enter.Goals as goal

pub enter_as-requires : goal.enter_as-requires
enter_as-requires g c x = enters _ _ _ x
