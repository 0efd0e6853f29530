-- A record is kept, or dropped.
use Rattle.std.proofs.Common.{true, false, refl, arith}
use Rattle.std.proofs.lemmas.Bool.{false≢true}
use Rattle.dt_speculation.proofs.Parts.{part_dropped, part_keeps, part_kept}
use Rattle.dt_speculation.proofs.part.SpecPart.put.Goals as goal

pub returns-then-self-len-clause-kept : goal.returns-then-self-len-clause-kept
returns-then-self-len-clause-kept c = λ size records s.
    part_keeps c.one_choice.ensures.one size records c.args.bytes.now c.args.self.now.kept.items s.drops s.shows false
    ((λ e. absurd (false≢true e)), (λ fits. absurd (omega (arith, s.same_size))))

pub returns-then-self-len-clause-stands : goal.returns-then-self-len-clause-stands
returns-then-self-len-clause-stands c = λ size records s.
    part_dropped size records c.args.bytes.now c.args.self.now c.args.self.now s refl refl (omega arith)

pub returns-clause-kept : goal.returns-clause-kept
returns-clause-kept c = λ size records s.
    part_keeps c.one_choice.ensures.one size records c.args.bytes.now c.args.self.now.kept.items s.drops s.shows true
    ((λ _. omega (arith, s.same_size)), (λ _. refl))

pub returns-clause-stands : goal.returns-clause-stands
returns-clause-stands c = λ size records s.
    part_kept size records c.args.bytes.now c.args.self.now _ s refl
    (rw (c.extend_from_slice.ensures.items, c.extend_from_slice.ensures.succeeds (omega arith)) refl)
    (omega arith)
