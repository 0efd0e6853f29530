-- What is to be shown of `withdraw`.
use Rattle.std.proofs.Common.{ℕ, ap, sym, subst}
use Rattle.dt_chain.specs.Writes.{seat_of}
use Rattle.dt_seat.proofs.asking.withdraw.Goals as goal
use Rattle.dt_seat.specs.Written.{SaysWrites}

pub write_down-withdrawn-requires-clause-writes : goal.write_down-withdrawn-requires-clause-writes
write_down-withdrawn-requires-clause-writes g c =
    subst (λ (n : ℕ). SaysWrites g.J.HubSite.word n c.args.writes.now) (sym (ap seat_of c.withdrawal.ensures)) c.requires.says
