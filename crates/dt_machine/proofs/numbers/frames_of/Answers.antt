-- What the proof of `frames_of` is told at its goals.
use Rattle.std.proofs.Common.{◌∙◌, Some, map, ap, sym, arith}
use Rattle.serde_json.specs.View.{view}
use Rattle.dt_machine.specs.Given.{unsigned}
use Rattle.dt_machine.specs.Rows.{number_in}
use Rattle.dt_machine.proofs.Padding.{pad_step, some_step, none_there}
use Rattle.dt_machine.proofs.Searching.{row_at}
use Rattle.dt_machine.proofs.numbers.frames_of.Goals as goal
use Rattle.dt_cred.specs.Limits.{frame_count}

pub returns-in_err-found : goal.returns-in_err-found
returns-in_err-found c =
    let rows = map unsigned (map view c.args.list.now) in
    let there = row_at unsigned c.args.list.now c.loop-i.i c.index-list-i.result c.loop-i-test.true
    c.index-list-i.is ∙ ap Some (sym c.as_u64.ensures ∙ c.in_err-found.was) in
    rw c.from_residual.ensures (λ right. none_there rows c.loop-i.i there right.each)

pub loop-i-preserved : goal.loop-i-preserved
loop-i-preserved c =
    let rows = map unsigned (map view c.args.list.now) in
    let i = c.loop-i.i in
    let x = c.in_ok-found.field-0 in
    let there = row_at unsigned c.args.list.now i c.index-list-i.result c.loop-i-test.true c.index-list-i.is
    ∙ ap Some (sym c.as_u64.ensures ∙ c.in_ok-found.was) in
    record {
      each = some_step rows i x there c.loop-i.invariant.each;
      found = pad_step number_in rows i frame_count (Some x) 0 c.loop-i.found there (omega arith) c.loop-i.invariant.found;
    }
