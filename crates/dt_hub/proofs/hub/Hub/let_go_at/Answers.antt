-- What is to be shown of `let_go_at`.
use Rattle.dt_hub.proofs.hub.Hub.let_go_at.Goals as goal
use Rattle.dt_hub.proofs.hub.Hub.let_go_at.Goals.{then-number, else-number}

pub returns-clause-tracked : goal.returns-clause-tracked
returns-clause-tracked g c = elim c.if-number.branch [
  | then-number w ↦ rw w.follower-is (λ writes knew. w.let_go.ensures.tracked writes knew)
  | else-number w ↦ rw w.follower-is (λ writes knew h. h)
]
