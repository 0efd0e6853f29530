-- An entry with the name is the one that is looked for.
use Rattle.std.proofs.Common.{sym, ap, ◌∙◌}
use Rattle.std.specs.Map.{lookup}
use Rattle.dt_aggstore.specs.EntryNames.{entry_named}
use Rattle.dt_aggstore.specs.Held.{entry_of}
use Rattle.dt_aggstore.proofs.Same.{entry_is}
use Rattle.dt_aggstore.proofs.Indexing.{is_named, tests_alike}
use Rattle.dt_aggstore.proofs.entry_index.recent_place.Goals as goal

pub returns-then-is : goal.returns-then-is
returns-then-is c =
    let name = c.in_ok-name.name.now in
    let entries = c.args.index.now.entries in
    ap (λ e. lookup (is_named e) entries)
    (entry_is (entry_of c.args.aggregation c.args.key.now.parts.items) (entry_named name)
    (sym c.is.ensures ∙ c.if-is.true))
    ∙ sym (ap (λ eq. lookup (eq name) entries) tests_alike) ∙ c.in_ok-name.ensures.value
