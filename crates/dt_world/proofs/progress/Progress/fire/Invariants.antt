-- What holds at each turn of a loop of `fire`.
use Rattle.std.proofs.Common.{◌≡◌, ◌++◌, ℕ, List, length}
use Rattle.dt_world.specs.Progress.{IsAfter}
use Rattle.dt_world.specs.Replay.{Replayed, after_step_line, seats_due}
use Rattle.dt_world.specs.StepLine.{look_line}
use Rattle.dt_world.specs.declared.output.Wanted.{Wanted}
use Rattle.dt_world.proofs.Offers.{in_order, offered_to}
use Rattle.dt_world.proofs.progress.Progress.fire.Given as goal

-- some of the seats that the look named were offered the firing, and the others are left
abbrev pub invariant-loop-seat : goal.invariant-loop-seat
invariant-loop-seat l = (wanted : Wanted) (now : Replayed) → IsAfter wanted l.machine now l.fn.self
    → (seats : List ℕ)
    × (seats ++ in_order l.left ≡ seats_due (after_step_line l.machine now (look_line l.cpu)).world l.cpu)
    × IsAfter wanted l.machine (offered_to l.machine now l.cpu seats) l.self

abbrev pub decreases-loop-seat : goal.decreases-loop-seat
decreases-loop-seat l = length (in_order l.left)
