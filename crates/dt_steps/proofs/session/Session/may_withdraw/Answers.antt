-- The publication may be withdrawn where the session is not active and no `go` is pending.
use Rattle.std.proofs.Common.{◌≡◌, ◌∙◌, sym, ap}
use Rattle.dt_life.specs.Life.{is_active}
use Rattle.dt_steps.specs.World.{life_in}
use Rattle.dt_steps.proofs.Serving.{not_active, withdraws_free, withdraws_not}
use Rattle.dt_steps.proofs.session.Session.may_withdraw.Goals as goal
use Rattle.dt_steps.proofs.session.Session.may_withdraw.Goals.{in-Active, in_default}

pub returns-after-matches : goal.returns-after-matches
returns-after-matches c = λ registry session h.
    let tracing : c.match-matches.matches ≡ is_active c.phase.result =
    elim c.match-matches.branch [
      | in-Active w ↦ w.matches-is ∙ sym (ap is_active w.in-Active.is)
      | in_default w ↦ w.matches-is ∙ sym (not_active c.phase.result w.in_default.not-Active)
    ] in
    withdraws_free registry session c.args.self.now h c.match-matches.matches c.if-is_none.ensures
    (tracing ∙ ap is_active (c.phase.ensures session.account registry (life_in registry session) h.stands))

pub returns-else-is_none : goal.returns-else-is_none
returns-else-is_none c = λ registry session h.
    c.if-is_none.false ∙ withdraws_not registry session c.args.self.now h c.if-is_none.ensures
