-- What is to be shown of `counts_in`.
use Rattle.serde_json.specs.View.{view}
use Rattle.dt_front.specs.Replies.{told_count}
use Rattle.dt_front.specs.CountForms.{form_of_row_count}
use Rattle.dt_front.proofs.Told.{all_told_more, all_told_none}
use Rattle.dt_front.proofs.reading.counts_in.Goals as goal

pub returns-in-None : goal.returns-in-None
returns-in-None c =
    all_told_none view told_count c.args.values.now c.loop-value.value-index c.value-item.result c.loop-value-test.true c.value-item.is c.in-None.ensures

pub loop-value-preserved : goal.loop-value-preserved
loop-value-preserved c =
    all_told_more view told_count form_of_row_count c.args.values.now c.loop-value.value-index c.value-item.result
    c.loop-value.counts.items c.push.new.self.items c.in-Some.counted c.loop-value-test.true c.value-item.is c.loop-value.invariant
    c.in-Some.ensures c.in_ok-push-in-Some.ensures.items
