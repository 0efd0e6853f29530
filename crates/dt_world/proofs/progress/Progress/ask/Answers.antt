-- A line is asked, and its reply told.
use Rattle.std.proofs.Common.{◌≡◌, Some, None, option_map, is_some, subst, ap, refl}
use Rattle.std.proofs.lemmas.Result.{on_ok_weaker}
use Rattle.dt_proto.specs.Lines.{line_form}
use Rattle.dt_steps.specs.Stands.{IsAnswered, first_account}
use Rattle.dt_steps.specs.Steps.{asking}
use Rattle.dt_world.specs.Told.{reply_told}
use Rattle.dt_world.proofs.After.{after-told, after-untold}
use Rattle.dt_life.specs.laws.Options.{some_of}
use Rattle.dt_world.proofs.Trails.{told-answered, asking-answers, told-unasked}
use Rattle.dt_world.proofs.progress.Progress.ask.Goals as goal

pub returns-in-Some : goal.returns-in-Some
returns-in-Some c =
    on_ok_weaker c.reply.result
    (λ tells wanted now before.
    let registry = c.args.machine.now.registry in
    let seat = c.args.seat in
    let line = line_form c.args.line.now in
    let world = asking registry now.world seat line in
    let answered = c.in-Some.answered in
    let answers : IsAnswered registry now.world world seat (Some answered.text.items) =
    subst (IsAnswered registry now.world world seat) (ap (option_map (λ one. one.text.items)) c.in-Some.is)
    (c.in_ok-answered.ensures.answer now.world before.at) in
    let a = asking-answers registry now.world seat line answered.text.items answers in
    let first : c.is_first-is_first.result ≡ is_some (first_account (now.world.places seat)) =
    c.is_first-is_first.ensures registry now.world before.at in
    after-told wanted c.args.machine.now now world c.args.self.now
    (record { engine = c.ask.new.self; taken = c.args.self.now.taken; output = c.reply.new.self })
    before (c.in_ok-answered.ensures.at now.world before.at) refl
    (λ w. reply_told w seat (is_some (first_account (now.world.places seat))) line answered.text.items
    answered.is_over)
    (rw (← first, ← c.deref.ensures.value) tells)
    (told-answered registry now.world wanted world seat line answered.text.items answered.is_over
    c.args.self.now.output.text.items a
    (some_of _ answered _ c.in-Some.is c.in_ok-answered.ensures.over now.world a.session before.at a.present)))
    c.reply.ensures

pub returns-in-None : goal.returns-in-None
returns-in-None c = λ wanted now before.
    let registry = c.args.machine.now.registry in
    let seat = c.args.seat in
    let line = line_form c.args.line.now in
    let world = asking registry now.world seat line in
    let none : IsAnswered registry now.world world seat None =
    subst (IsAnswered registry now.world world seat) (ap (option_map (λ one. one.text.items)) c.in-None.is)
    (c.in_ok-answered.ensures.answer now.world before.at) in
    after-untold wanted c.args.machine.now now world c.args.self.now
    (record { engine = c.ask.new.self; taken = c.args.self.now.taken; output = c.args.self.now.output })
    before (c.in_ok-answered.ensures.at now.world before.at) refl refl
    (told-unasked registry now.world wanted seat line c.args.self.now.output.text.items none)
