-- Were all taken from the home on, there would be more than there is room for.
use Rattle.std.proofs.Common.{◌≤◌, ◌<◌, ℕ, length, arith}
use Rattle.std.specs.Prelude.{◌≢◌, pos}
use Rattle.dt_locals.specs.Hash.{home_in}
use Rattle.dt_locals.specs.Slots.{value_at}
use Rattle.dt_locals.proofs.Hashing.{taken_from, home_within}
use Rattle.dt_locals.proofs.table.Table.find.Goals as goal

pub unreachable-requires : goal.unreachable-requires
unreachable-requires c =
    let self = c.args.self.now in
    let slots = self.slots.items in
    let home = home_in self.homes c.args.variable.now in
    let all : (place : ℕ) → home ≤ place → place < length slots → value_at slots place ≢ pos 0 =
    λ place from lt. (c.loop-place.invariant.passed place from
    (omega (arith, c.loop-place-test.false, c.len-place-end.ensures, self.slots.ok.0))).0 in
    let before : home < self.homes = home_within self.homes c.args.variable.now self.some_homes in
    let within : home ≤ length slots = omega (arith, self.long) in
    omega (arith, taken_from slots home within all, before, self.long, self.counted, self.within)
