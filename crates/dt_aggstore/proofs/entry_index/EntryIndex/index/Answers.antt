-- The index is its keys beside its values.
use Rattle.std.proofs.Common.{ap, ◌∙◌, zip}
use Rattle.dt_aggstore.specs.Indexed.{Indexed}
use Rattle.dt_aggstore.proofs.Indexing.{zipped}
use Rattle.dt_aggstore.proofs.entry_index.EntryIndex.index.Goals as goal

pub returns : goal.returns
returns c = zipped c.self.inside.index.entries ∙ ap (λ (v : Indexed). zip v.items v.places) c.self.view_is
