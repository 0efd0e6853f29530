-- Of the seats of the word those that were taken out are named where they are to be.
use Rattle.std.proofs.Common.{◌≡◌, ◌≢◌, ℕ, ◌/◌, true, None}
use Rattle.std.specs.Prelude.{slice_index, slice_index_or}
use Rattle.dt_machine.specs.Context.{IsContext}
use Rattle.dt_machine.specs.Registry.{Registry}
use Rattle.dt_chain.specs.Kept.{life_shown}
use Rattle.dt_machine.specs.BitWord.{has_bit, weight_of}
use Rattle.dt_chain.proofs.Showing.{AreNamed}
use Rattle.dt_chain.proofs.entries.Entries.show.Given as goal

abbrev pub invariant-loop-place : goal.invariant-loop-place
invariant-loop-place l = record {
  left : (place : ℕ) → has_bit l.left place ≡ true → has_bit l.fn.seats place ≡ true;
  named : (registry : Registry) → IsContext registry l.context
      → AreNamed l.word (λ seat. life_shown registry l.context.firing.now (slice_index_or l.self.slots seat None)) l.fn.seats l.left l.named l.mask.lives;
  others : (seat : ℕ) → seat / 64 ≢ l.word → slice_index l.mask.lives seat ≡ slice_index l.initial.mask.lives seat;
  same : l.mask.seats ≡ l.initial.mask.seats;
}

abbrev pub decreases-loop-place : goal.decreases-loop-place
decreases-loop-place l = weight_of l.left
