-- A line may be asked where no `go` is pending and no `close` was accepted.
use Rattle.std.proofs.Common.{◌∙◌}
use Rattle.dt_steps.proofs.Serving.{asks_free, asks_not}
use Rattle.dt_steps.proofs.session.Session.may_ask.Goals as goal

pub returns-then-is_none-clause-may : goal.returns-then-is_none-clause-may
returns-then-is_none-clause-may c = λ registry session h. asks_free registry session c.args.self.now h c.if-is_none.ensures

pub returns-else-is_none-clause-may : goal.returns-else-is_none-clause-may
returns-else-is_none-clause-may c = λ registry session h.
    c.if-is_none.false ∙ asks_not registry session c.args.self.now h c.if-is_none.ensures
