-- What is to be shown of `find_open`.
use Rattle.std.proofs.Common.{rules, ◌≡◌, ◌<◌, ◌≤◌, ◌⊎◌, ℕ, Some, None, ap, sym, subst}
use mathlib.Core.List.{IsPrefix}
use Rattle.dt_chain.specs.Seats.{life_at}
use Rattle.dt_chain.specs.Writes.{writes_of}
use Rattle.dt_meeting.specs.laws.Looking.{mask_is_begun}
use Rattle.dt_seat.proofs.Writing.{not_begun}
use Rattle.dt_seat.proofs.locked.LockedSeat.find_open.Goals as goal
use Rattle.dt_seat.specs.Seats.{Seated}
use Rattle.dt_seat.specs.Written.{writes_in}

pub unreachable-requires : goal.unreachable-requires
unreachable-requires g c =
    let contents = g.J.Traced.contents in
    let inside = c.self.inside in
    let seat_is : c.args.self.now.number ≡ inside.number = ap (λ (x : Seated). x.number) (sym c.self.view_is) in
    let named = subst (λ (n : ℕ). life_at c.requires.named.1 n ≡ Some c.args.life) seat_is c.requires.named.3 in
    let seen = c.args.reader.now.seen in
    let begins : IsPrefix (writes_of seen inside.number) (writes_in inside.writes.fact) = search rules in
    let apart : (inside.life < c.args.life) ⊎ ((inside.present ≡ None) × (inside.life ≤ c.args.life)) = search rules in
    mask_is_begun contents inside.number c.args.life seen (writes_in inside.writes.fact) c.requires.named.0 c.requires.named.1 c.requires.named.2 named
    begins (not_begun g.J.HubSite.word contents inside.number inside.life c.args.life inside.present inside.writes c.self.invariant.1 apart)
