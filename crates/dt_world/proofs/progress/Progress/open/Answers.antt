-- A session is opened, and told where it is the first.
use Rattle.std.proofs.Common.{◌≡◌, Some, None, true, false, inl, inr, rules, sym, ◌∙◌, refl}
use Rattle.std.proofs.lemmas.Result.{on_ok_weaker}
use Rattle.dt_steps.specs.Stands.{first_account}
use Rattle.dt_steps.specs.Steps.{opening}
use Rattle.dt_world.specs.Told.{opening_text}
use Rattle.dt_world.proofs.After.{after-told, after-untold, none_there}
use Rattle.dt_world.proofs.Trails.{told-opened, told-unopened}
use Rattle.dt_world.proofs.progress.Progress.open.Goals as goal

pub returns-in-Some : goal.returns-in-Some
returns-in-Some c =
    on_ok_weaker c.open-in-Some.result
    (λ tells wanted now before.
    let registry = c.args.machine.now.registry in
    let seat = c.args.seat in
    let name = c.args.name.now in
    let world = opening registry now.world seat name in
    let at = c.in_ok-open.ensures now.world before.at in
    let there : c.is_first-was_there.result ≡ false = search rules in
    let none : first_account (now.world.places seat) ≡ None =
    none_there (first_account (now.world.places seat))
    (sym (c.is_first-was_there.ensures registry now.world before.at) ∙ there) in
    let first : first_account (world.places seat) ≡ Some c.in-Some.account =
    sym (c.first.ensures registry world at) ∙ c.in-Some.is in
    after-told wanted c.args.machine.now now world c.args.self.now
    (record { engine = c.open.new.self; taken = c.args.self.now.taken; output = c.open-in-Some.new.self })
    before at refl (λ w. opening_text w seat c.in-Some.account) tells
    (told-opened registry now.world wanted seat name c.in-Some.account c.args.self.now.output.text.items none first))
    c.open-in-Some.ensures

pub returns-then-was_there : goal.returns-then-was_there
returns-then-was_there c = λ wanted now before.
    let registry = c.args.machine.now.registry in
    let seat = c.args.seat in
    let name = c.args.name.now in
    let world = opening registry now.world seat name in
    let at = c.in_ok-open.ensures now.world before.at in
    let there : c.is_first-was_there.result ≡ true = search rules in
    after-untold wanted c.args.machine.now now world c.args.self.now
    (record { engine = c.open.new.self; taken = c.args.self.now.taken; output = c.args.self.now.output })
    before at refl refl
    (told-unopened registry now.world wanted seat name c.args.self.now.output.text.items
    (inr (sym (c.is_first-was_there.ensures registry now.world before.at) ∙ there)))

pub returns-in-None : goal.returns-in-None
returns-in-None c = λ wanted now before.
    let registry = c.args.machine.now.registry in
    let seat = c.args.seat in
    let name = c.args.name.now in
    let world = opening registry now.world seat name in
    let at = c.in_ok-open.ensures now.world before.at in
    after-untold wanted c.args.machine.now now world c.args.self.now
    (record { engine = c.open.new.self; taken = c.args.self.now.taken; output = c.args.self.now.output })
    before at refl refl
    (told-unopened registry now.world wanted seat name c.args.self.now.output.text.items
    (inl (sym (c.first.ensures registry world at) ∙ c.in-None.is)))
