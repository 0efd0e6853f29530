-- The counts so far are those that the values so far are.
use Rattle.std.proofs.Common.{◌≡◌, Some, map, take}
use Rattle.serde_json.specs.View.{view}
use Rattle.dt_front.specs.Replies.{all_told, told_count}
use Rattle.dt_front.specs.CountForms.{form_of_row_count}
use Rattle.dt_front.proofs.reading.counts_in.Given as goal

abbrev pub invariant-loop-value : goal.invariant-loop-value
invariant-loop-value l = Some (map form_of_row_count l.counts.items) ≡ all_told told_count (map view (take l.value-index l.values))
