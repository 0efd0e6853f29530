-- What a step answered is told.
use Rattle.std.proofs.Common.{◌∷◌, [], map, sym, subst}
use Rattle.std.proofs.lemmas.List.{map-append}
use Rattle.dt_steps.specs.Ran.{HasTold}
use Rattle.dt_steps.specs.Telling.{IsTelling}
use Rattle.dt_steps.proofs.Taking.{told-replied, told-looked}
use Rattle.dt_steps.proofs.running.Ran.tell.Goals as goal

pub returns-in_ok-push-in-Replied : goal.returns-in_ok-push-in-Replied
returns-in_ok-push-in-Replied c = λ registry before after telling h.
    let told = map (λ reply. (reply.0, reply.1.items)) c.args.self.now.replies.items in
    subst (λ items. HasTold registry after (map (λ reply. (reply.0, reply.1.items)) items) c.args.self.now.masks.items)
    (sym c.in_ok-push-in-Replied.ensures.items)
    (subst (λ all. HasTold registry after all c.args.self.now.masks.items)
    (sym (map-append (λ reply. (reply.0, reply.1.items)) c.args.self.now.replies.items
    ((c.in-Replied.seat, c.in-Replied.text) ∷ [])))
    (told-replied registry before after told c.args.self.now.masks.items h c.in-Replied.seat c.in-Replied.text
    (subst (IsTelling registry before after) c.in-Replied.is telling)))

pub returns-in_ok-push-in-Looked : goal.returns-in_ok-push-in-Looked
returns-in_ok-push-in-Looked c = λ registry before after telling h.
    let told = map (λ reply. (reply.0, reply.1.items)) c.args.self.now.replies.items in
    subst (HasTold registry after told) (sym c.in_ok-push-in-Looked.ensures.items)
    (told-looked registry before after told c.args.self.now.masks.items h c.in-Looked.mask
    (subst (IsTelling registry before after) c.in-Looked.is telling))
