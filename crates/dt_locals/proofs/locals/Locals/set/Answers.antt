-- The table keeps the assignment, or a drop is counted.
use Rattle.std.proofs.Common.{◌≡◌, ℕ, ◌+◌, Bool, true, false, cond, w64, ap, arith}
use Rattle.std.specs.Prelude.{not}
use Rattle.std.proofs.lemmas.Int.{to_z-of_z}
use Rattle.dt_locals.specs.History.{assigned}
use Rattle.dt_locals.specs.laws.Assigning.{Bit}
use Rattle.dt_locals.proofs.Pasts.{keeps, has, stands}
use Rattle.dt_locals.proofs.locals.Locals.set.Goals as goal

pub returns-then-not-is_kept-clause-stands : goal.returns-then-not-is_kept-clause-stands
returns-then-not-is_kept-clause-stands c = λ past at.
    let told = c.set-is_kept.ensures in
    stands past c.args.self.now at (assigned c.args.pid c.args.tid c.args.name.now c.args.value) c.set-is_kept.result
    _ (to_z-of_z w64 c.args.value c.ranges.value) told.answers
    _ told.room told.values told.taken
    (dropped c.args.self.now.drops c.set-is_kept.result c.if-not-is_kept.true)
  where
    dropped : (drops : ℕ) (b : Bool) → b ≡ false → drops + 1 ≡ drops + cond (not b) 1 0
    dropped drops b e = let one : Bit (not b) ≡ 1 = ap (λ t. Bit (not t)) e in omega arith

pub returns-then-not-is_kept-clause-keeps : goal.returns-then-not-is_kept-clause-keeps
returns-then-not-is_kept-clause-keeps c = λ past at.
    keeps past c.args.self.now at (assigned c.args.pid c.args.tid c.args.name.now c.args.value) c.set-is_kept.result
    _ (to_z-of_z w64 c.args.value c.ranges.value) c.set-is_kept.ensures.answers

pub returns-then-not-is_kept-clause-has : goal.returns-then-not-is_kept-clause-has
returns-then-not-is_kept-clause-has c = λ past at.
    has past c.args.self.now at (assigned c.args.pid c.args.tid c.args.name.now c.args.value) c.set-is_kept.result
    _ (to_z-of_z w64 c.args.value c.ranges.value) c.set-is_kept.ensures.answers

pub returns-else-not-is_kept-clause-stands : goal.returns-else-not-is_kept-clause-stands
returns-else-not-is_kept-clause-stands c = λ past at.
    let told = c.set-is_kept.ensures in
    stands past c.args.self.now at (assigned c.args.pid c.args.tid c.args.name.now c.args.value) c.set-is_kept.result
    _ (to_z-of_z w64 c.args.value c.ranges.value) told.answers
    _ told.room told.values told.taken
    (kept_drops c.args.self.now.drops c.set-is_kept.result c.if-not-is_kept.false)
  where
    kept_drops : (drops : ℕ) (b : Bool) → b ≡ true → drops ≡ drops + cond (not b) 1 0
    kept_drops drops b e = let none : Bit (not b) ≡ 0 = ap (λ t. Bit (not t)) e in omega arith

pub returns-else-not-is_kept-clause-keeps : goal.returns-else-not-is_kept-clause-keeps
returns-else-not-is_kept-clause-keeps c = λ past at.
    keeps past c.args.self.now at (assigned c.args.pid c.args.tid c.args.name.now c.args.value) c.set-is_kept.result
    _ (to_z-of_z w64 c.args.value c.ranges.value) c.set-is_kept.ensures.answers

pub returns-else-not-is_kept-clause-has : goal.returns-else-not-is_kept-clause-has
returns-else-not-is_kept-clause-has c = λ past at.
    has past c.args.self.now at (assigned c.args.pid c.args.tid c.args.name.now c.args.value) c.set-is_kept.result
    _ (to_z-of_z w64 c.args.value c.ranges.value) c.set-is_kept.ensures.answers
