-- What the proof of `first_long` is told at its goals.
use Rattle.std.proofs.Common.{◌≡◌, ◌<◌, ◌≤◌, ap, map, length, arith}
use Rattle.serde_json.specs.View.{view}
use Rattle.dt_machine.specs.Reading.{AllRight}
use Rattle.dt_machine.specs.Rows.{HasRoom, firing_row, script_rows}
use Rattle.dt_machine.specs.Sections.{scripts_rows, firing_rows}
use Rattle.dt_machine.proofs.Firings.{too_long, short_enough}
use Rattle.dt_machine.proofs.Searching.{row_at, right_more, right_all, length-rows}
use Rattle.dt_machine.proofs.scripts.first_long.Goals as goal
use Rattle.dt_machine.specs.Limits.{script_max}

pub returns-then-items_of-gt-SCRIPT_MAX : goal.returns-then-items_of-gt-SCRIPT_MAX
returns-then-items_of-gt-SCRIPT_MAX c =
    let script = script_rows (view c.index-scripts-cpu.result) in
    let there = row_at script_rows c.args.scripts.now c.loop-cpu.cpu c.index-scripts-cpu.result
    c.loop-cpu-test.true c.index-scripts-cpu.is in
    let counted : length (firing_rows c.items_of.result.now) ≡ length script =
    ap (λ ds. length (map firing_row ds)) c.items_of.ensures in
    let long : script_max < length script = omega (
      arith,
      counted,
      length-rows firing_row c.items_of.result.now,
      c.if-items_of-gt-SCRIPT_MAX.true,
    ) in
    record { script = script; there = there; first = too_long script script_max long; right_before = c.loop-cpu.invariant }

pub loop-cpu-preserved : goal.loop-cpu-preserved
loop-cpu-preserved c =
    let script = script_rows (view c.index-scripts-cpu.result) in
    let there = row_at script_rows c.args.scripts.now c.loop-cpu.cpu c.index-scripts-cpu.result
    c.loop-cpu-test.true c.index-scripts-cpu.is in
    let counted : length (firing_rows c.items_of.result.now) ≡ length script =
    ap (λ ds. length (map firing_row ds)) c.items_of.ensures in
    let short : length script ≤ script_max = omega (
      arith,
      counted,
      length-rows firing_row c.items_of.result.now,
      c.if-items_of-gt-SCRIPT_MAX.false,
    ) in
    right_more (λ _ rows. AllRight HasRoom rows) (scripts_rows c.args.scripts.now) c.loop-cpu.cpu script
    c.loop-cpu.invariant there (short_enough script script_max short)

pub returns : goal.returns
returns c =
    right_all (λ _ rows. AllRight HasRoom rows) (scripts_rows c.args.scripts.now) c.loop-cpu.cpu
    (omega (arith, length-rows script_rows c.args.scripts.now, c.loop-cpu-test.false)) c.loop-cpu.invariant
