use Rattle.dt_chain.proofs.Rises.{admits}
use Rattle.dt_chain.proofs.press.Press.reader.Goals as goal

pub reader-requires : goal.reader-requires
reader-requires g c = admits _
