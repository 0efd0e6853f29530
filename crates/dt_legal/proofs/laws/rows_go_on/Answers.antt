-- What is to be shown of `rows_go_on`.
use Rattle.dt_legal.specs.laws.Beginning.{legal_beginning}
use Rattle.dt_legal.specs.laws.Following.{line_follows, firing_follows}
use Rattle.dt_legal.proofs.laws.rows_go_on.Goals as goal

pub returns : goal.returns
returns c = record { empty = λ account contents. tt; begins = legal_beginning; line = line_follows; firing = firing_follows }
