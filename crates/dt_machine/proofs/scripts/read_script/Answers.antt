-- What the proof of `read_script` is told at its goals.
use Rattle.std.proofs.Common.{◌∙◌, ap, take, refl, arith, [], ◌∷◌, ◌++◌}
use Rattle.serde_json.specs.View.{view}
use Rattle.dt_machine.specs.Rows.{firing_row, IsRightFiring}
use Rattle.dt_machine.specs.Sections.{firing_rows, registry_of}
use Rattle.dt_machine.proofs.Firings.{script_next}
use Rattle.dt_machine.proofs.Told.{firing_wrong}
use Rattle.dt_machine.proofs.Searching.{row_at, first_wrong, right_more, right_all, length-rows}
use Rattle.dt_machine.proofs.scripts.read_script.Goals as goal

pub returns-in-Err-clause-fault : goal.returns-in-Err-clause-fault
returns-in-Err-clause-fault c other =
    let rows = firing_rows c.args.rows.now in
    let i = c.loop-place.place in
    let there = row_at firing_row c.args.rows.now i c.index-rows-place.result c.loop-place-test.true
    c.index-rows-place.is in
    let registry = registry_of c.args.sections.now in
    let row = firing_row (view c.index-rows-place.result) in (
      refl,
      refl,
      first_wrong (IsRightFiring registry) rows i row c.loop-place.invariant.right there
          (firing_wrong registry c.args.cpu i (take i rows) row c.in-Err.wrong c.in-Err.ensures),
      record { row = row; there = there; tells = c.in-Err.ensures },
    )

pub loop-place-preserved : goal.loop-place-preserved
loop-place-preserved c =
    let rows = firing_rows c.args.rows.now in
    let i = c.loop-place.place in
    let row = firing_row (view c.index-rows-place.result) in
    let there = row_at firing_row c.args.rows.now i c.index-rows-place.result c.loop-place-test.true
    c.index-rows-place.is in
    let right = c.in-Ok.ensures in
    record {
      right = right_more (IsRightFiring (registry_of c.args.sections.now)) rows i row c.loop-place.invariant.right
          there (right.0 (take i rows));
      read = c.in_ok-push-in-Ok.ensures.items ∙ ap (λ found. c.loop-place.found.items ++ found ∷ []) right.1
          ∙ script_next c.args.cpu rows i row c.loop-place.found.items there c.loop-place.invariant.read;
    }

pub returns-clause-right : goal.returns-clause-right
returns-clause-right c =
    right_all (IsRightFiring (registry_of c.args.sections.now)) (firing_rows c.args.rows.now) c.loop-place.place
    (omega (arith, length-rows firing_row c.args.rows.now, c.loop-place-test.false)) c.loop-place.invariant.right
