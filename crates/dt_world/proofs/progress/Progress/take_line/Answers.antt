-- A line is taken, or refused.
use Rattle.std.proofs.Common.{◌≡◌, true, false, sym, ◌∙◌, rules}
use Rattle.std.proofs.lemmas.Bool.{true≢false}
use Rattle.dt_world.specs.Replay.{replayed}
use Rattle.dt_world.specs.StepLine.{form_of_step_line}
use Rattle.dt_world.proofs.LineLists.{written}
use Rattle.dt_world.proofs.Taken.{taken-one_more, room, refused_unspelled, refused_unknown}
use Rattle.dt_world.proofs.progress.Progress.take_line.Goals as goal

pub returns-in_default-clause-refused : goal.returns-in_default-clause-refused
returns-in_default-clause-refused c = λ _ wanted lines before.
    refused_unspelled c.args.machine.now.registry lines c.args.line.now
    (written c.args.line.now c.if-is_empty.ensures) c.in_default.ensures.none

pub returns-then-not-is_known-clause-refused : goal.returns-then-not-is_known-clause-refused
returns-then-not-is_known-clause-refused c = λ _ wanted lines before.
    let unknown : c.is_known.result ≡ false = search rules in
    refused_unknown c.args.machine.now.registry lines c.args.line.now (form_of_step_line c.in-Some.step)
    (written c.args.line.now c.if-is_empty.ensures) c.in-Some.ensures.found
    (λ known. let yes : c.is_known.result ≡ true = c.is_known.ensures.1 known in true≢false (sym yes ∙ unknown))

pub returns-clause-taken : goal.returns-clause-taken
returns-clause-taken c = λ _ wanted lines small before.
    let contents = c.args.machine.now in
    let known : c.is_known.result ≡ true = search rules in
    let on = c.is_known.ensures.0 known in
    taken-one_more wanted contents lines c.args.line.now (form_of_step_line c.in-Some.step) c.args.self.now
    c.take.new.self
    before (written c.args.line.now c.if-is_empty.ensures) c.in-Some.ensures.found on
    (c.in_ok-take.ensures wanted (replayed contents before.forms)
    (room wanted contents lines c.args.self.now before small)
    before.after)
