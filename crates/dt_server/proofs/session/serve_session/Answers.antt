-- What was served from the beginning on.
use Rattle.std.proofs.Common.{◌≡◌, List, ap, sym, subst, ◌∙◌}
use Rattle.dt_proto.specs.Lines.{lines_of}
use Rattle.dt_seat.specs.Sessions.{Sat}
use Rattle.dt_server.specs.Served.{HasServed}
use Rattle.dt_server.specs.Talk.{IsTalk}
use Rattle.dt_server.proofs.Talking.{has_served}
use Rattle.dt_server.proofs.session.serve_session.Goals as goal
use Rattle.dt_server.proofs.session.serve_session.Goals.{in-Ok, in-Err}
use Rattle.dt_trail.specs.Items.{TrailItem}

pub returns-clause-served : goal.returns-clause-served
returns-clause-served g c = λ not_memory.
    let account = c.args.session.account in
    let contents = g.J.Traced.contents in
    elim c.match-new.branch [
      | in-Ok w ↦
          let after = w.talk-ended.new.session.knows in
          let e = w.talk-ended.result in
          let t = w.talk-ended.ensures.talk in
          let P : List TrailItem → Type 0 = λ k. IsTalk account contents e k after (lines_of t.0) t.1 in
          let Q : List TrailItem → Type 0 = λ k. HasServed account contents e (lines_of t.0) k t.1 in
          let knows_is : c.receipt-receipt.result.knows ≡ after = c.receipt-receipt.ensures.knows ∙ ap (λ (s : Sat). s.knows) w.session-is in
          let served = has_served account contents e after (lines_of t.0) t.1 (subst P c.requires.fresh t.4) in
          rw (w.source-is, w.sink-is, w.ended-is) (t.0, t.1, t.2, t.3, subst Q (sym knows_is) served)
      | in-Err w ↦ absurd (not_memory w.ended-is)
    ]
