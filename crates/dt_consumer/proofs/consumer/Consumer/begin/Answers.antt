-- Tracing begins, and may have ended in the same step.
use Rattle.std.proofs.Common.{[], refl, arith}
use Rattle.dt_life.specs.Life.{set_up, since_then, happens}
use Rattle.dt_life.specs.Takings.{began}
use Rattle.dt_life.specs.laws.Verdicts.{begun_by_go}
use Rattle.dt_life.specs.laws.Happening.{same_options, same_clauses}
use Rattle.dt_life.specs.laws.Lines.{after_counted, quota_left}
use Rattle.dt_consumer.proofs.Stands.{keeps_traced, stands_changed}
use Rattle.dt_consumer.proofs.consumer.Consumer.begin.Goals as goal

pub returns : goal.returns
returns c = λ account registry life line s drafted.
    let own = set_up account registry life in
    let fresh = since_then own [] in
    let next = happens account registry fresh began in
    let accepted = drafted.0 in
    rw (after_counted life line accepted.0, accepted.3)
    (stands_changed account registry c.args.self.now life s _ _ next
    (begun_by_go account registry life accepted.1 accepted.2)
    (omega (arith, quota_left life accepted.0, s.counted, c.saturating_add-self.ensures))
    (keeps_traced account registry c.args.self.now own next _ c.args.tracing s.keeps
    (same_options account registry fresh began) (same_clauses account registry fresh began)
    drafted.1 refl))
