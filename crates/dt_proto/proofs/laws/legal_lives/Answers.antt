-- What is to be shown of `legal_lives`.
use Rattle.dt_proto.specs.laws.Legal.{lives, life_told, legal_before}
use Rattle.dt_proto.proofs.laws.legal_lives.Goals as goal

pub returns : goal.returns
returns c = record { life = lives; «function» = life_told; before = legal_before }
