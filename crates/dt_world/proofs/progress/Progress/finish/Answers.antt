-- A `go` takes effect, and its reply is told.
use Rattle.std.proofs.Common.{◌≡◌, Some, None, false, option_map, is_some, subst, sym, ap, ◌++◌, refl}
use Rattle.std.proofs.lemmas.Result.{on_ok_weaker}
use Rattle.dt_proto.specs.Asked.{form_asked}
use Rattle.dt_steps.specs.Stands.{IsAnswered, first_account}
use Rattle.dt_steps.specs.Steps.{finishing}
use Rattle.dt_world.specs.Told.{IsTold, reply_told}
use Rattle.dt_world.proofs.After.{after-told, after-untold}
use Rattle.dt_life.specs.laws.Options.{some_of}
use Rattle.dt_world.proofs.Trails.{told-answered, finishing-answers, told-unfinished, within_quota}
use Rattle.dt_world.proofs.progress.Progress.finish.Goals as goal

pub returns-in-Some : goal.returns-in-Some
returns-in-Some c =
    on_ok_weaker c.reply.result
    (λ tells wanted now before.
    let registry = c.args.machine.now.registry in
    let seat = c.args.seat in
    let world = finishing now.world seat in
    let done = c.in-Some.finished in
    let line = form_asked done.line in
    let answers : IsAnswered registry now.world world seat (Some done.text.items) =
    subst (IsAnswered registry now.world world seat) (ap (option_map (λ one. one.text.items)) c.in-Some.is)
    (c.finish.ensures.answer now.world before.at) in
    let f = finishing-answers registry now.world seat done.text.items answers in
    let same = some_of _ done _ c.in-Some.is c.finish.ensures.line now.world f.answers.session f.pending
    before.at f.answers.present f.go in
    let first : c.is_first-is_first.result ≡ is_some (first_account (now.world.places seat)) =
    c.is_first-is_first.ensures registry now.world before.at in
    after-told wanted c.args.machine.now now world c.args.self.now
    (record { engine = c.finish.new.self; taken = c.args.self.now.taken; output = c.reply.new.self })
    before (c.finish.ensures.at now.world before.at) refl
    (λ w. reply_told w seat (is_some (first_account (now.world.places seat))) line done.text.items false)
    (rw (← first, ← c.deref.ensures.value, ← c.lent.ensures) tells)
    (λ told. subst (λ one. IsTold wanted registry world (c.args.self.now.output.text.items
    ++ reply_told wanted seat (is_some (first_account (now.world.places seat))) one done.text.items false)) (sym same)
    (told-answered registry now.world wanted world seat f.pending.line done.text.items false
    c.args.self.now.output.text.items f.answers
    (within_quota registry now.world seat f.answers.session f.pending f.answers.present f.go before.at.0) told)))
    c.reply.ensures

pub returns-in-None : goal.returns-in-None
returns-in-None c = λ wanted now before.
    let registry = c.args.machine.now.registry in
    let seat = c.args.seat in
    let world = finishing now.world seat in
    let none : IsAnswered registry now.world world seat None =
    subst (IsAnswered registry now.world world seat) (ap (option_map (λ one. one.text.items)) c.in-None.is)
    (c.finish.ensures.answer now.world before.at) in
    after-untold wanted c.args.machine.now now world c.args.self.now
    (record { engine = c.finish.new.self; taken = c.args.self.now.taken; output = c.args.self.now.output })
    before (c.finish.ensures.at now.world before.at) refl refl
    (told-unfinished registry now.world wanted seat c.args.self.now.output.text.items none)
