-- What the proof of `first_process` is told at its goals.
use Rattle.std.proofs.Common.{◌≡◌, map, true}
use Rattle.serde_json.specs.View.{view}
use Rattle.dt_machine.specs.Shape.{is_process}
use Rattle.dt_machine.proofs.Searching.{right_more}
use Rattle.dt_machine.proofs.Shapes.{value_at, shaped_all}
use Rattle.dt_machine.proofs.shape.first_process.Goals as goal

pub returns-in-Some : goal.returns-in-Some
returns-in-Some c = record {
  at = c.loop-at.at;
  row = view c.index-rows-at.result;
  there = value_at c.args.rows.now c.loop-at.at c.index-rows-at.result c.loop-at-test.true c.index-rows-at.is;
  wrong = c.in-Some.ensures.0;
  tells = c.in-Some.ensures.1;
  right_before = c.loop-at.invariant;
}

pub loop-at-preserved : goal.loop-at-preserved
loop-at-preserved c =
    right_more (λ _ d. is_process d ≡ true) (map view c.args.rows.now) c.loop-at.at (view c.index-rows-at.result)
    c.loop-at.invariant
    (value_at c.args.rows.now c.loop-at.at c.index-rows-at.result c.loop-at-test.true c.index-rows-at.is)
    c.in_default.ensures

pub returns : goal.returns
returns c = shaped_all is_process c.args.rows.now c.loop-at.at c.loop-at-test.false c.loop-at.invariant
