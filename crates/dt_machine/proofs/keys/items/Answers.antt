-- What the proof of `items` is told at its goals.
use Rattle.std.proofs.Common.{ap, sym, ◌∙◌, map, Some, option_map}
use Rattle.serde_json.specs.View.{view}
use Rattle.dt_machine.specs.Given.{list_of}
use Rattle.dt_machine.proofs.Lists.{list_of-items}
use Rattle.dt_machine.proofs.keys.items.Goals as goal

pub returns-in-Some : goal.returns-in-Some
returns-in-Some c =
    ap (λ values. Some (map view values)) c.as_slice.ensures.value
    ∙ ap Some (sym (list_of-items (map view c.in-Some.list.now.items)))
    ∙ ap (option_map list_of) c.in-Some.ensures
