-- The parts so far are those that the values so far are.
use Rattle.std.proofs.Common.{◌≡◌, Some, map, take}
use Rattle.serde_json.specs.View.{view}
use Rattle.dt_front.specs.Replies.{all_told, told_part}
use Rattle.dt_front.specs.TableForms.{form_of_key_part}
use Rattle.dt_front.proofs.reading.key_in.Given as goal

abbrev pub invariant-loop-value : goal.invariant-loop-value
invariant-loop-value l = Some (map form_of_key_part l.key.items) ≡ all_told told_part (map view (take l.value-index l.values))
