-- What is to be shown of `output_of`.
use Rattle.std.proofs.Common.{◌≡◌, ◌∷◌, ◌++◌, [], length, refl, arith, rules, ◌+◌}
use Rattle.std.proofs.lemmas.List.{length-append}
use Rattle.dt_world.specs.Input.{input_lines}
use Rattle.dt_world.proofs.LineCuts.{lines-one_more, length-cut, lines-all}
use Rattle.dt_world.proofs.LineLists.{refused_here, finished}
use Rattle.dt_world.proofs.replays.output_of.Goals as goal

pub loop-line-init : goal.loop-line-init
loop-line-init c = ([], refl, refl, omega arith, c.in-Ok.ensures)

pub loop-line-preserved : goal.loop-line-preserved
loop-line-preserved c =
    let before = c.loop-line.invariant in
    let cut = c.in-Some.ensures.found in
    let room = length-cut c.loop-line.rest.now c.in-Some.line.now c.in-Some.more.now cut in
    let one_more : length (before.0 ++ c.in-Some.line.now ∷ [])
    ≡ length before.0 + 1 = length-append before.0 (c.in-Some.line.now ∷ []) in (
      before.0 ++ c.in-Some.line.now ∷ [],
      lines-one_more c.args.input.now c.loop-line.rest.now c.in-Some.line.now c.in-Some.more.now before.0 before.1
          cut,
      omega (arith, one_more, before.2),
      omega (arith, room, before.3),
      c.take_line.ensures.taken (search rules) c.args.wanted before.0
          (omega (arith, room, before.2, before.3)) before.4,
    )

pub returns-in-Ok-false-clause-err : goal.returns-in-Ok-false-clause-err
returns-in-Ok-false-clause-err c =
    let before = c.loop-line.invariant in
    let taken = before.4 in
    refused_here c.args.machine.now.registry (input_lines c.args.input.now) before.0 (input_lines c.in-Some.more.now)
    c.in-Some.line.now c.loop-line.number taken.forms
    (lines-one_more c.args.input.now c.loop-line.rest.now c.in-Some.line.now c.in-Some.more.now before.0
    before.1 c.in-Some.ensures.found) before.2 taken.steps
    (c.take_line.ensures.refused (search rules) c.args.wanted before.0 taken)

pub returns-clause-ok : goal.returns-clause-ok
returns-clause-ok c =
    let before = c.loop-line.invariant in
    finished c.args.wanted c.args.machine.now c.args.input.now before.0 c.loop-line.progress
    (lines-all c.args.input.now c.loop-line.rest.now before.0 before.1 c.in_default.ensures.none) before.4
