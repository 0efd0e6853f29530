-- An offer, and the firing told where it is seen by the session whose trail is wanted.
use Rattle.std.proofs.Common.{◌≡◌, [], cond, is_some, sym, ap, ◌∙◌, refl, subst}
use Rattle.std.proofs.lemmas.List.{append-nil}
use Rattle.std.proofs.lemmas.Result.{on_ok_weaker}
use Rattle.dt_proto.specs.Trail.{fired_at, item_text}
use Rattle.dt_steps.specs.Stands.{first_account}
use Rattle.dt_steps.specs.Steps.{offering}
use Rattle.dt_world.specs.Told.{Tells, firing_told}
use Rattle.dt_world.proofs.After.{after-told, after-untold}
use Rattle.dt_world.proofs.Trails.{told-seen-at, told-unseen-at}
use Rattle.dt_world.proofs.progress.Progress.offer.Goals as goal

pub returns : goal.returns
returns c =
    on_ok_weaker c.fire.result
    (λ tells wanted now before.
    let registry = c.args.machine.now.registry in
    let seat = c.args.seat in
    let cpu = c.args.cpu in
    let world = offering now.world cpu seat in
    let own = c.args.self.now.output in
    let first = is_some (first_account (now.world.places seat)) in
    let at = c.in-Some.at in
    let told : firing_told own.wanted seat first at.cpu at.place ≡ item_text (fired_at at.cpu at.place) =
    ap (λ b. cond b (item_text (fired_at at.cpu at.place)) [])
    (sym (c.is_followed-is_followed.ensures registry now.world before.at) ∙ c.if-not-is_followed.false) in
    after-told wanted c.args.machine.now now world c.args.self.now
    (record { engine = c.offer.new.self; taken = c.args.self.now.taken; output = c.fire.new.self })
    before (c.offer.ensures now.world before.at).0 refl
    (λ w. firing_told w seat first at.cpu at.place)
    (subst (Tells own c.fire.new.self) (sym told) tells)
    (told-seen-at registry now.world wanted cpu seat at own.text.items
    (sym c.in-Some.is ∙ (c.offer.ensures now.world before.at).1)))
    c.fire.ensures

pub returns-then-not-is_followed : goal.returns-then-not-is_followed
returns-then-not-is_followed c = λ wanted now before.
    let registry = c.args.machine.now.registry in
    let seat = c.args.seat in
    let cpu = c.args.cpu in
    let world = offering now.world cpu seat in
    let own = c.args.self.now.output in
    let first = is_some (first_account (now.world.places seat)) in
    let at = c.in-Some.at in
    let untold : firing_told own.wanted seat first at.cpu at.place ≡ [] =
    ap (λ b. cond b (item_text (fired_at at.cpu at.place)) [])
    (sym (c.is_followed-is_followed.ensures registry now.world before.at) ∙ c.if-not-is_followed.true) in
    let silent : Tells own own [] = record { wanted = refl; text = sym (append-nil own.text.items) } in
    after-told wanted c.args.machine.now now world c.args.self.now
    (record { engine = c.offer.new.self; taken = c.args.self.now.taken; output = own })
    before (c.offer.ensures now.world before.at).0 refl
    (λ w. firing_told w seat first at.cpu at.place)
    (subst (Tells own own) (sym untold) silent)
    (told-seen-at registry now.world wanted cpu seat at own.text.items
    (sym c.in-Some.is ∙ (c.offer.ensures now.world before.at).1))

pub returns-in_default : goal.returns-in_default
returns-in_default c = λ wanted now before.
    let registry = c.args.machine.now.registry in
    let world = offering now.world c.args.cpu c.args.seat in
    after-untold wanted c.args.machine.now now world c.args.self.now
    (record { engine = c.offer.new.self; taken = c.args.self.now.taken; output = c.args.self.now.output })
    before (c.offer.ensures now.world before.at).0 refl refl
    (told-unseen-at registry now.world wanted c.args.cpu c.args.seat c.args.self.now.output.text.items
    (sym ((c.offer.ensures now.world before.at).1) ∙ c.in_default.is))
