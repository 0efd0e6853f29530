-- What is to be shown of `key_in`.
use Rattle.std.proofs.Common.{option_map, ap, sym, ◌∙◌}
use Rattle.serde_json.specs.View.{view}
use Rattle.dt_front.specs.Replies.{told_part}
use Rattle.dt_front.specs.TableForms.{form_of_key_part}
use Rattle.dt_front.proofs.Told.{all_told_more, all_told_none}
use Rattle.dt_front.proofs.reading.key_in.Goals as goal

pub returns-in-None : goal.returns-in-None
returns-in-None c =
    all_told_none view told_part c.args.values.now c.loop-value.value-index c.value-item.result c.loop-value-test.true c.value-item.is
    (sym (ap (option_map form_of_key_part) c.in-None.is) ∙ c.in_ok-part.ensures)

pub loop-value-preserved : goal.loop-value-preserved
loop-value-preserved c =
    all_told_more view told_part form_of_key_part c.args.values.now c.loop-value.value-index c.value-item.result
    c.loop-value.key.items c.push.new.self.items c.in-Some.part c.loop-value-test.true c.value-item.is c.loop-value.invariant
    (sym (ap (option_map form_of_key_part) c.in-Some.is) ∙ c.in_ok-part.ensures) c.in_ok-push-in-Some.ensures.items
