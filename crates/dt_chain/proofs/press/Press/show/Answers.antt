use Rattle.std.proofs.Common.{ap, ◌∙◌}
use Rattle.dt_chain.proofs.Pending.{shows_all, shown_all, of_ok}
use Rattle.dt_chain.proofs.press.Press.show.Goals as goal

pub publish_as-inner-requires : goal.publish_as-inner-requires
publish_as-inner-requires g c =
    shows_all _ _ _ _ _ c.self.invariant.2 (ap (λ p. p.waits) c.self.view_is ∙ c.requires) _ _

-- no copy refuses a write
pub invariant_of-result : goal.invariant_of-result
invariant_of-result g c =
    let published = c.publish_as-inner.ensures in
    let all = of_ok _ _ c.publish_as-inner.result.1 (published.succeeds tt) published.values in
    let none = ap (λ p. p.waits) c.self.view_is ∙ c.requires in
    let shown = shown_all _ _ _ _ _ _ _ c.self.invariant.2 none all.0 all.1 in
    (c.self.invariant.0, c.self.invariant.1, shown.0)

pub returns-clause-published : goal.returns-clause-published
returns-clause-published g c =
    let published = c.publish_as-inner.ensures in
    let all = of_ok _ _ c.publish_as-inner.result.1 (published.succeeds tt) published.values in
    let none = ap (λ p. p.waits) c.self.view_is ∙ c.requires in
    let shown = shown_all _ _ _ _ _ _ _ c.self.invariant.2 none all.0 all.1 in
    shown.1 ∙ ap (λ p. p.writes) c.self.view_is
