use Rattle.std.proofs.Common.{rules, ◌≡◌}
use mathlib.Core.List.{IsPrefix}
use Rattle.left_right.specs.Sides.{view}
use Rattle.dt_chain.proofs.Fronts.{prefix_trans}
use Rattle.dt_chain.proofs.chain_reader.ChainReader.look_into.Goals as goal

pub returns-in-Ok-clause-seen : goal.returns-in-Ok-clause-seen
returns-in-Ok-clause-seen g c =
    let there : IsPrefix c.self.inside.seen (view c.unwrap.result.place) = search rules in
    let last : c.in-Ok.field-0.front ≡ view c.enter-inner.result.0.place = search rules in
    let all = prefix_trans c.self.inside.seen (view c.unwrap.result.place) (view c.enter-inner.result.0.place)
    there c.enter-inner.ensures.grows in
    rw (last, ← c.self.view_is) all
