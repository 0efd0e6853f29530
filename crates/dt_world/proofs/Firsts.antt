-- What a change of what is on a seat does to the trail of the first session there.
use Rattle.std.proofs.Common.{◌≡◌, ℕ, ◌++◌, ◌==◌, ◌&&◌, Bool, true, false, cond, List, [], Option, Some, None, is_some}
use Rattle.std.proofs.Common.{length, refl, ap}
use Rattle.std.proofs.lemmas.List.{append-nil}
use Rattle.std.specs.Option.{option_map, option_map_or, option_and_then}
use Rattle.dt_cred.specs.declared.account.Account.{Account}
use Rattle.dt_machine.specs.Registry.{Registry}
use Rattle.dt_cred.specs.declared.firing.Firing.{Firing}
use Rattle.dt_chain.specs.Writes.{Published}
use Rattle.dt_life.specs.Life.{is_over}
use Rattle.dt_proto.specs.Alone.{Reached, firing_made, IsText}
use Rattle.dt_proto.specs.Lines.{LineForm}
use Rattle.dt_proto.specs.Trail.{fired_at, item_text}
use Rattle.dt_world.specs.Replay.{IsTrailText}
use Rattle.dt_steps.specs.Sound.{IsSoundSeat}
use Rattle.dt_steps.specs.Stands.{first_account, sees_on}
use Rattle.dt_steps.specs.Steps.{passed, offered}
use Rattle.dt_life.specs.Tests.{is_seen}
use Rattle.dt_chain.specs.Tests.{is_named}
use Rattle.dt_world.specs.Told.{answer_told}
use Rattle.dt_steps.specs.World.{Session, Place, DueOffer, life_in, session_numbered, sessions_on, reached, answered}
use Rattle.dt_steps.specs.laws.Unseen.{unseen_unless_named}
use Rattle.dt_world.proofs.Telling.{trail-answered, trail-seen, trail-unseen}

-- the first session on a seat
abbrev pub first_on : Place → Option Session
first_on place = session_numbered (sessions_on place) 0

-- whose a session is, and what reached it
abbrev pub seen_as : Option Session → Option (Account × List Reached)
seen_as session = option_map (λ s. (s.account, s.view)) session

-- Where neither the account nor the view is another, the trail is the same.
pub text-same : (registry : Registry) (before after : Option Session) (text : List ℕ)
    → seen_as after ≡ seen_as before → IsTrailText registry before text → IsTrailText registry after text
text-same registry None None text same h = h
text-same registry None (Some a) text same h = cc
text-same registry (Some b) None text same h = cc
text-same registry (Some b) (Some a) text same h =
    let account : a.account ≡ b.account =
    ap (λ o. option_map_or (λ (p : Account × List Reached). p.0) o a.account) same in
    let view : a.view ≡ b.view = ap (λ o. option_map_or (λ (p : Account × List Reached). p.1) o a.view) same in
    rw (account, view) h

module _ (place : Place) (session : Session) (is : place.present ≡ Some session) where
  pub first_known : is_some (first_account place) ≡ (length place.earlier == 0)
  first_known = rw is (known (length place.earlier == 0)) where
    known : (b : Bool) → is_some (cond b (Some session.account) None) ≡ b
    known true = refl
    known false = refl

  -- the session is another of the same account and view
  pub first-same : (new : Session) → new.account ≡ session.account → new.view ≡ session.view
      → seen_as (first_on (record { present = Some new; earlier = place.earlier })) ≡ seen_as (first_on place)
  first-same new account view = rw is (by_number (length place.earlier == 0)) where
    by_number : (b : Bool) → seen_as (cond b (Some new) (session_numbered place.earlier 0))
        ≡ seen_as (cond b (Some session) (session_numbered place.earlier 0))
    by_number true = rw (account, view) refl
    by_number false = refl

  -- the session is another: where it is the first, its trail is this
  changed : (registry : Registry) (new : Session) (text more : List ℕ)
      → (IsTrailText registry (Some session) text → IsTrailText registry (Some new) (text ++ more))
      → IsTrailText registry (first_on place) text
      → IsTrailText registry (first_on (record { present = Some new; earlier = place.earlier }))
      (text ++ cond (is_some (first_account place)) more [])
  changed registry new text more does h =
      rw first_known (by_number (length place.earlier == 0) (rw is at h)) where
        by_number : (b : Bool) → IsTrailText registry (cond b (Some session) (session_numbered place.earlier 0)) text
            → IsTrailText registry (cond b (Some new) (session_numbered place.earlier 0)) (text ++ cond b more [])
        by_number true told = does told
        by_number false told = rw (append-nil text) told

  pub first-answered : (registry : Registry) (line : LineForm) (reply : List ℕ) (over : Bool) (text : List ℕ)
      → IsText session.account registry session.view line reply → over ≡ is_over (life_in registry session)
      → IsTrailText registry (first_on place) text
      → IsTrailText registry (first_on (record { present = Some (answered session line); earlier = place.earlier }))
      (text ++ cond (is_some (first_account place)) (answer_told line reply over) [])
  first-answered registry line reply over text answers full h =
      changed registry (answered session line) text (answer_told line reply over)
      (trail-answered session.account registry session.view line reply over text answers full) h

  pub first-seen : (registry : Registry) (firing : Firing) (text : List ℕ)
      → is_seen session.account registry (life_in registry session) firing ≡ true
      → IsTrailText registry (first_on place) text
      → IsTrailText registry (first_on
      (record { present = Some (reached session (firing_made firing)); earlier = place.earlier }))
      (text ++ cond (is_some (first_account place)) (item_text (fired_at firing.cpu firing.place)) [])
  first-seen registry firing text seen h =
      changed registry (reached session (firing_made firing)) text (item_text (fired_at firing.cpu firing.place))
      (trail-seen session.account registry session.view firing text seen) h

  pub first-unseen : (registry : Registry) (firing : Firing) (text : List ℕ)
      → is_seen session.account registry (life_in registry session) firing ≡ false
      → IsTrailText registry (first_on place) text
      → IsTrailText registry (first_on
      (record { present = Some (reached session (firing_made firing)); earlier = place.earlier })) text
  first-unseen registry firing text unseen h =
      by_number (length place.earlier == 0) (rw is at h) where
        by_number : (b : Bool) → IsTrailText registry (cond b (Some session) (session_numbered place.earlier 0)) text
            → IsTrailText registry (cond b (Some (reached session (firing_made firing)))
            (session_numbered place.earlier 0))
            text
        by_number true told = trail-unseen session.account registry session.view firing text unseen told
        by_number false told = told

module _ (registry : Registry) where
  -- a firing is offered, and seen
  pub offered-seen : (due : DueOffer) (place : Place) (text : List ℕ) → sees_on registry due place ≡ true
      → IsTrailText registry (first_on place) text
      → IsTrailText registry (first_on (offered due place))
      (text ++ cond (is_some (first_account place)) (item_text (fired_at due.firing.cpu due.firing.place)) [])
  offered-seen due place text sees h = session_case place.present refl sees where
    life_case : (session : Session) (same : Bool) → place.present ≡ Some session
        → (same && is_seen session.account registry (life_in registry session) due.firing) ≡ true
        → IsTrailText registry (first_on
        (cond same (record place { present = Some (reached session (firing_made due.firing)) }) place))
        (text ++ cond (is_some (first_account place)) (item_text (fired_at due.firing.cpu due.firing.place)) [])
    life_case session true is seen = first-seen place session is registry due.firing text seen h
    life_case session false is seen = cc

    session_case : (present : Option Session) → place.present ≡ present
        → option_map_or (λ session. (due.life == length place.earlier)
        && is_seen session.account registry (life_in registry session) due.firing) present false ≡ true
        → IsTrailText registry (first_on (option_map_or (λ session. cond (due.life == length place.earlier)
        (record place { present = Some (reached session (firing_made due.firing)) }) place) present place))
        (text ++ cond (is_some (first_account place)) (item_text (fired_at due.firing.cpu due.firing.place)) [])
    session_case None is seen = cc
    session_case (Some session) is seen = life_case session (due.life == length place.earlier) is seen

  -- a firing is offered, and not seen
  pub offered-unseen : (due : DueOffer) (place : Place) (text : List ℕ) → sees_on registry due place ≡ false
      → IsTrailText registry (first_on place) text → IsTrailText registry (first_on (offered due place)) text
  offered-unseen due place text sees h = session_case place.present refl sees where
    life_case : (session : Session) (same : Bool) → place.present ≡ Some session
        → (same && is_seen session.account registry (life_in registry session) due.firing) ≡ false
        → IsTrailText registry (first_on
        (cond same (record place { present = Some (reached session (firing_made due.firing)) }) place)) text
    life_case session true is seen = first-unseen place session is registry due.firing text seen h
    life_case session false is seen = h

    session_case : (present : Option Session) → place.present ≡ present
        → option_map_or (λ session. (due.life == length place.earlier)
        && is_seen session.account registry (life_in registry session) due.firing) present false ≡ false
        → IsTrailText registry (first_on (option_map_or (λ session. cond (due.life == length place.earlier)
        (record place { present = Some (reached session (firing_made due.firing)) }) place) present place)) text
    session_case None is seen = h
    session_case (Some session) is seen = life_case session (due.life == length place.earlier) is seen

  abbrev life_named : Firing → Option Published → Option ℕ
  life_named firing publication = option_and_then (λ one. cond (is_named registry one firing) (Some one.life) None) publication

  -- a look passes a seat: who isn't named doesn't see the firing
  pub passed-trail : (seat : ℕ) (publication : Option Published) (place : Place) (firing : Firing) (text : List ℕ)
      → IsSoundSeat registry seat publication place → IsTrailText registry (first_on place) text
      → IsTrailText registry (first_on (passed firing (option_and_then
      (λ one. cond (is_named registry one firing) (Some one.life) None) publication) place)) text
  passed-trail seat publication place firing text sound h = session_case place.present refl where
    named_case : (session : Session) → place.present ≡ Some session → (is_named_now : Bool)
        → option_map_or (λ life. life == length place.earlier) (life_named firing publication) false ≡ is_named_now
        → IsTrailText registry (first_on
        (cond is_named_now place (record place { present = Some (reached session (firing_made firing)) }))) text
    named_case session is true at = h
    named_case session is false at =
        let is_sound = rw is at sound in
        first-unseen place session is registry firing text
        (unseen_unless_named registry session.account (life_in registry session) (length place.earlier) firing
        session.go publication is_sound.1 at) h

    session_case : (present : Option Session) → place.present ≡ present
        → IsTrailText registry (first_on (option_map_or (λ session.
        cond (option_map_or (λ life. life == length place.earlier) (life_named firing publication) false) place
        (record place { present = Some (reached session (firing_made firing)) })) present place)) text
    session_case None is = h
    session_case (Some session) is =
        named_case session is (option_map_or (λ life. life == length place.earlier) (life_named firing publication) false)
        refl
