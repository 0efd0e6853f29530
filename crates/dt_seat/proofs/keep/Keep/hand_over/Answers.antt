-- What is to be shown of `hand_over`.
use Rattle.std.proofs.Common.{ap, Some}
use Rattle.dt_facts.specs.Facts.{HaveGrown, lists_in}
use Rattle.dt_facts.specs.Handles.{BegunLists, HeldFact}
use Rattle.dt_seat.specs.Keeps.{took_in}
use Rattle.dt_seat.specs.Knowledge.{steps_in}
use Rattle.dt_seat.proofs.Lending.{carries_taken}
use Rattle.dt_seat.proofs.keep.Keep.hand_over.Goals as goal

pub returns-clause-carried : goal.returns-clause-carried
returns-clause-carried g c =
    let grown : HaveGrown c.follower.inside.lives.lists (lists_in c.args.lives.now.fact) = c.catch_up.ensures.begins in
    let all = ap (λ (b : BegunLists). b.lists.lives) c.catch_up.ensures.beginning in
    let took = ap (λ (h : HeldFact). took_in h.fact) c.go_on_apart.ensures.share in
    rw (c.take-told.ensures.after, ← c.follower.view_is)
    (carries_taken _ _ _ _ _ _ _ _ _ _ c.follower.invariant (steps_in c.args.lives.now.fact) c.args.life c.args.owner.now.row grown.2
    c.requires.is_open c.go_on_apart.new.share c.catch_up.new.beginning (Some c.informed.result) all took)
