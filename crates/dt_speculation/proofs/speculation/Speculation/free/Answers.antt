-- One part more is cleared.
use Rattle.std.proofs.Common.{◌≡◌, ℕ, ◌<◌, [], length, false, refl, ◌∙◌, subst, arith}
use Rattle.std.specs.List.{AllWithin}
use Rattle.std.proofs.lemmas.List.{get_or-set_other, length-set}
use Rattle.std.proofs.lemmas.List.Elements.{AllWithin-more_set, All-from_all_within}
use Rattle.dt_speculation.specs.IsAt.{PartIsAt}
use Rattle.dt_speculation.proofs.Places.{found_there}
use Rattle.dt_speculation.proofs.Uses.{speculation_none}
use Rattle.dt_speculation.proofs.speculation.Speculation.free.Goals as goal

pub loop-cpu-preserved : goal.loop-cpu-preserved
loop-cpu-preserved c =
    let parts = c.loop-cpu.self.parts.items in
    let cpu = c.loop-cpu.cpu in
    let whole = c.args.self.now.parts.items in
    let held = c.loop-cpu.invariant in
    let inside : cpu < length parts = omega (arith, c.loop-cpu-test.true, held.parts) in
    record {
      parts = length-set parts cpu c.clear.new.self ∙ held.parts;
      cleared = λ size in_use records s.
          AllWithin-more_set parts cpu c.clear.new.self inside (PartIsAt size []) (held.cleared size in_use records s)
          (c.clear.ensures size (records cpu)
          (found_there (records cpu ≡ []) (PartIsAt size (records cpu)) whole cpu c.index_mut.result.now
          (omega (arith, held.parts))
          (c.index_mut.ensures.value ∙ held.rest cpu c.index_mut.result.now (omega arith)) (s.parts cpu)));
      rest = λ k d h.
          get_or-set_other parts cpu k c.clear.new.self d (λ e. absurd (omega arith)) ∙ held.rest k d (omega arith);
    }

pub returns-clause-stands : goal.returns-clause-stands
returns-clause-stands c = λ size in_use records s.
    let parts = c.loop-cpu.self.parts.items in
    let P : ℕ → Type 0 = λ n. AllWithin (PartIsAt size []) parts 0 n in
    let all : c.loop-cpu.cpu ≡ length parts = omega (arith, c.loop-cpu.invariant.parts, c.loop-cpu-test.false) in
    speculation_none size false _ refl
    (All-from_all_within (PartIsAt size []) parts (subst P all (c.loop-cpu.invariant.cleared size in_use records s)))
