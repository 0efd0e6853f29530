-- Of the seats of the words so far those are named that are to be.
use Rattle.std.proofs.Common.{◌≡◌, ◌&&◌, ℕ, ◌/◌, cond, None, nat_lt}
use Rattle.std.specs.Prelude.{slice_index_or}
use Rattle.dt_machine.specs.Context.{IsContext}
use Rattle.dt_machine.specs.Registry.{Registry}
use Rattle.dt_chain.specs.Kept.{life_shown}
use Rattle.dt_chain.specs.Seats.{has, life_at}
use Rattle.dt_chain.proofs.entries.Entries.show_all.Given as goal

abbrev pub invariant-loop-word : goal.invariant-loop-word
invariant-loop-word l = (registry : Registry) → IsContext registry l.context → (seat : ℕ) → life_at l.mask seat
    ≡ cond (nat_lt (seat / 64) l.word && has l.seats seat)
    (life_shown registry l.context.firing.now (slice_index_or l.self.slots seat None)) None
