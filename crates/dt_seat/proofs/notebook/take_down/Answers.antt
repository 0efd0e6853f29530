-- What is to be shown of `take_down`.
use Rattle.std.proofs.Common.{refl}
use Rattle.dt_seat.specs.Publications.{writes_seen}
use Rattle.dt_seat.proofs.notebook.take_down.Goals as goal

pub returns-in_default-clause-now : goal.returns-in_default-clause-now
returns-in_default-clause-now g c = rw c.in_default.is (writes_seen c.args.front.now, refl)
