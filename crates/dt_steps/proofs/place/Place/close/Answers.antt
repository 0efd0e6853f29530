-- A session ended.
use Rattle.std.proofs.Common.{◌≡◌, ◌+◌, arith, rules, is_some, true}
use Rattle.dt_steps.proofs.Holding.{closed-session}
use Rattle.dt_steps.proofs.place.Place.close.Goals as goal

pub returns-then-is_some : goal.returns-then-is_some
returns-then-is_some c = λ registry place few h.
    let some : is_some c.args.self.now.present ≡ true = search rules in
    let earlier : c.saturating_add-self.result ≡ c.args.self.now.earlier + 1 =
    omega (arith, h.counted, few, c.saturating_add-self.ensures) in
    closed-session registry place c.args.self.now h c.saturating_add-self.result some earlier
