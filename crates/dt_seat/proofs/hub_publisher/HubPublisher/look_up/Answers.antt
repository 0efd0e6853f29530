-- What is to be shown of `look_up`.
use Rattle.std.proofs.Common.{List, sym, ap, subst}
use mathlib.Core.List.{IsPrefix}
use Rattle.dt_chain.specs.Writes.{Write, writes_of}
use Rattle.dt_publisher.specs.laws.OwnWrites.{own_begin}
use Rattle.dt_seat.proofs.hub_publisher.HubPublisher.look_up.Goals as goal
use Rattle.dt_seat.specs.Written.{writes_in}

pub returns-clause-begins : goal.returns-clause-begins
returns-clause-begins g c =
    let own = own_begin c.args.front.now c.whole.new.self.writes c.args.seat c.whole.ensures.whole in
    subst (λ (l : List Write). IsPrefix (writes_of c.args.front.now c.args.seat) l) (sym (ap writes_in c.agree.ensures.agree)) own
