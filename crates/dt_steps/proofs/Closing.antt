-- No line is asked of a session after its accepted `close`.
use Rattle.std.proofs.Common.{◌≡◌, ℕ, ◌==◌, Bool, true, false, cond, List, [], ◌∷◌, Option, Some, None, IfSome}
use Rattle.std.proofs.Common.{fold, length, nat_lt, is_none, ◌&&◌, refl, ap, ◌∙◌, subst}
use Rattle.std.proofs.lemmas.Bool.{and_parts, not-true, cond_both}
use Rattle.std.specs.List.{AllByRecursion, list_any}
use Rattle.std.specs.Option.{option_map_or}
use Rattle.dt_chain.specs.Tests.{mask_of}
use Rattle.dt_chain.specs.declared.seat.TheConstants.{SEATS}
use Rattle.dt_cred.specs.declared.account.Account.{Account}
use Rattle.dt_cred.specs.declared.firing.Firing.{Firing}
use Rattle.dt_life.specs.Life.{Item, fired}
use Rattle.dt_life.specs.Tests.{is_seen}
use Rattle.dt_machine.specs.Registry.{Registry, Contents}
use Rattle.dt_proto.specs.Alone.{Reached, own_line, firing_made}
use Rattle.dt_proto.specs.Legal.{IsLegal}
use Rattle.dt_proto.specs.Lines.{LineForm}
use Rattle.dt_proto.specs.Session.{session_account}
use Rattle.dt_proto.specs.Told.{view_told}
use Rattle.dt_proto.specs.Trail.{WrittenItem, line_asked, long_asked, fired_at}
use Rattle.dt_proto.specs.Views.{life_of, seen_view}
use Rattle.dt_proto.specs.laws.Legal.{life_told}
use Rattle.dt_proto.specs.laws.Views.{life-seen_view}
use Rattle.dt_steps.proofs.Soundness.{updated, option_case}
use Rattle.dt_steps.specs.Steps.{StepForm, opens, asks, publishes, finishes, withdraws, looks, offers, closes, after_step}
use Rattle.dt_steps.specs.Steps.{world_after, with_session, opening, asking, publishing, finishing, withdrawing}
use Rattle.dt_steps.specs.Steps.{passed, looking, is_done, offered, offering, closing}
use Rattle.dt_steps.specs.Trails.{EndsAtClose, HasSeen}
use Rattle.dt_steps.specs.World.{World, Session, Place, Pending, DueOffer, new_world, session_numbered, sessions_on, session_of}
use Rattle.dt_steps.specs.World.{new_session, reached, answered, waiting, is_closing, life_in, may_ask, accepts_go}
use Rattle.dt_steps.specs.World.{may_withdraw}

module _ (registry : Registry) where
  -- no `close` was accepted
  abbrev IsOpen : Account → List Reached → Type 0
  IsOpen account view = list_any is_closing (life_of account registry view) ≡ false

  -- no line stands after an accepted `close`
  abbrev LinesEnd : Account → List Reached → Type 0
  LinesEnd account [] = Unit {0}
  LinesEnd account (own_line line ∷ view) = LinesEnd account view × IsOpen account view
  LinesEnd account (firing_made firing ∷ view) = LinesEnd account view

  record IsAskedWell (session : Session) : Type 0 where
    lines : LinesEnd session.account session.view
    waits : (pending : Pending) → session.go ≡ Some pending → IsOpen session.account session.view

  record IsPlaceAskedWell (place : Place) : Type 0 where
    present : IfSome place.present IsAskedWell
    earlier : AllByRecursion IsAskedWell place.earlier

  abbrev IsWorldAskedWell : World → Type 0
  IsWorldAskedWell world = (seat : ℕ) → IsPlaceAskedWell (world.places seat)

  -- what reaches a session
  open_still : (life : List Item) (firing : Firing) (seen : Bool) → list_any is_closing life ≡ false
      → list_any is_closing (cond seen (fired firing ∷ life) life) ≡ false
  open_still life firing true h = h
  open_still life firing false h = h

  well-reached : (session : Session) (firing : Firing) → IsAskedWell session
      → IsAskedWell (reached session (firing_made firing))
  well-reached session firing h = record {
    lines = h.lines;
    waits = λ pending is. open_still (life_in registry session) firing
        (is_seen session.account registry (life_in registry session) firing) (h.waits pending is);
  }

  well-answered : (session : Session) (line : LineForm) → IsAskedWell session
      → IsOpen session.account session.view → IsAskedWell (answered session line)
  well-answered session line h may = record { lines = (h.lines, may); waits = λ pending is. cc }

  well-waiting : (session : Session) (line : LineForm) (published : Bool) → IsAskedWell session
      → IsOpen session.account session.view → IsAskedWell (waiting session line published)
  well-waiting session line published h may = record { lines = h.lines; waits = λ pending is. may }

  well-new : (account : Account) → IsAskedWell (new_session account)
  well-new account = record { lines = tt; waits = λ pending is. cc }

  may_open : (session : Session) → may_ask registry session ≡ true → IsOpen session.account session.view
  unfolding may_ask
  may_open session may = not-true (list_any is_closing (life_in registry session)) (and_parts _ _ may).1

  -- a place after a firing reached its session
  well-place : (place : Place) (session : Session) (firing : Firing) → place.present ≡ Some session
      → IsPlaceAskedWell place → IsPlaceAskedWell (record place { present = Some (reached session (firing_made firing)) })
  well-place place session firing is h =
      let own = rw is at h.present in
      record { present = well-reached session firing own; earlier = h.earlier }

  well-passed : (firing : Firing) (named : Option ℕ) (place : Place) → IsPlaceAskedWell place
      → IsPlaceAskedWell (passed firing named place)
  well-passed firing named place h =
      option_case IsPlaceAskedWell _ place place.present h (λ session is.
      cond_both (option_map_or (λ life. life == length place.earlier) named false) _ _ IsPlaceAskedWell
      (λ own. h) (λ other. well-place place session firing is h))

  well-offered : (due : DueOffer) (place : Place) → IsPlaceAskedWell place → IsPlaceAskedWell (offered due place)
  well-offered due place h =
      option_case IsPlaceAskedWell _ place place.present h (λ session is.
      cond_both (due.life == length place.earlier) _ _ IsPlaceAskedWell
      (λ own. well-place place session due.firing is h) (λ other. h))

  module _ (world : World) (h : IsWorldAskedWell world) where
    own_session : (seat : ℕ) (session : Session) → (world.places seat).present ≡ Some session → IsAskedWell session
    own_session seat session is = let at = h seat in rw is at at.present

    well-with_place : (seat : ℕ) (place : Place) → IsPlaceAskedWell place
        → (other : ℕ) → IsPlaceAskedWell (cond (seat == other) place (world.places other))
    well-with_place seat place now = updated (λ other at. IsPlaceAskedWell at) world.places seat place h now

    well-with_session : (seat : ℕ) (session : Session) → IsAskedWell session
        → IsWorldAskedWell (with_session world seat session)
    well-with_session seat session now =
        let before = h seat in
        well-with_place seat (record { present = Some session; earlier = (world.places seat).earlier })
        (record { present = now; earlier = before.earlier })

    well-opening : (seat : ℕ) (name : List ℕ) → IsWorldAskedWell (opening registry world seat name)
    unfolding opening
    well-opening seat name =
        cond_both (nat_lt seat SEATS && is_none (world.places seat).present) _ world IsWorldAskedWell
        (λ may. option_case IsWorldAskedWell _ world (session_account registry name) h (λ account is.
        well-with_session seat (new_session account) (well-new account)))
        (λ no. h)

    well-asking : (seat : ℕ) (line : LineForm) → IsWorldAskedWell (asking registry world seat line)
    unfolding asking
    well-asking seat line =
        option_case IsWorldAskedWell _ world (world.places seat).present h (λ session is.
        let own = own_session seat session is in
        cond_both (may_ask registry session) _ world IsWorldAskedWell
        (λ may. cond_both (accepts_go registry session line) _ _ IsWorldAskedWell
        (λ begun. well-with_session seat (waiting session line false)
        (well-waiting session line false own (may_open session may)))
        (λ other. well-with_session seat (answered session line) (well-answered session line own (may_open session may))))
        (λ no. h))

    well-publishing : (seat : ℕ) → IsWorldAskedWell (publishing registry world seat)
    unfolding publishing
    well-publishing seat =
        option_case IsWorldAskedWell _ world (world.places seat).present h (λ session is.
        option_case IsWorldAskedWell _ world session.go h (λ pending pends.
        let own = own_session seat session is in
        cond_both pending.published _ _ IsWorldAskedWell (λ done. h) (λ due.
        well-with_session seat (waiting session pending.line true)
        (well-waiting session pending.line true own (own.waits pending pends)))))

    well-finishing : (seat : ℕ) → IsWorldAskedWell (finishing world seat)
    unfolding finishing
    well-finishing seat =
        option_case IsWorldAskedWell _ world (world.places seat).present h (λ session is.
        option_case IsWorldAskedWell _ world session.go h (λ pending pends.
        let own = own_session seat session is in
        cond_both pending.published _ _ IsWorldAskedWell
        (λ due. well-with_session seat (answered session pending.line)
        (well-answered session pending.line own (own.waits pending pends)))
        (λ other. h)))

    well-withdrawing : (seat : ℕ) → IsWorldAskedWell (withdrawing registry world seat)
    unfolding withdrawing
    well-withdrawing seat =
        cond_both (option_map_or (may_withdraw registry) (world.places seat).present true) _ world IsWorldAskedWell
        (λ may. h) (λ other. h)

    well-looking : (cpu : ℕ) (firing : Firing) → IsWorldAskedWell (looking registry world cpu firing)
    unfolding looking
    well-looking cpu firing =
        cond_both (nat_lt cpu registry.cpus && (firing.cpu == cpu && is_done (world.due cpu))) _ world IsWorldAskedWell
        (λ may seat. well-passed firing (mask_of registry world.writes firing seat) (world.places seat) (h seat))
        (λ no. h)

    well-offering : (cpu seat : ℕ) → IsWorldAskedWell (offering world cpu seat)
    unfolding offering
    well-offering cpu seat =
        option_case IsWorldAskedWell _ world (world.due cpu seat) h (λ due is.
        well-with_place seat (offered due (world.places seat)) (well-offered due (world.places seat) (h seat)))

    well-closing : (seat : ℕ) → IsWorldAskedWell (closing world seat)
    unfolding closing
    well-closing seat =
        option_case IsWorldAskedWell _ world (world.places seat).present h (λ session is.
        let before = h seat in
        well-with_place seat (record { present = None; earlier = session ∷ (world.places seat).earlier })
        (record { present = tt; earlier = (own_session seat session is, before.earlier) }))

  well-happens : (world : World) (step : StepForm) → IsWorldAskedWell world
      → IsWorldAskedWell (after_step registry world step)
  well-happens world (opens seat name) h = well-opening world h seat name
  well-happens world (asks seat line) h = well-asking world h seat line
  well-happens world (publishes seat) h = well-publishing world h seat
  well-happens world (finishes seat) h = well-finishing world h seat
  well-happens world (withdraws seat) h = well-withdrawing world h seat
  well-happens world (looks cpu firing) h = well-looking world h cpu firing
  well-happens world (offers cpu seat) h = well-offering world h cpu seat
  well-happens world (closes seat) h = well-closing world h seat

  well-fold : (world : World) (steps : List StepForm) → IsWorldAskedWell world
      → IsWorldAskedWell (fold (after_step registry) world steps)
  well-fold world [] h = h
  well-fold world (step ∷ steps) h = well-fold (after_step registry world step) steps (well-happens world step h)

  -- each session of a seat
  numbered_at : (session : Session) (earlier : List Session) (n : ℕ) (same : Bool) (found : Session)
      → IsAskedWell session → (session_numbered earlier n ≡ Some found → IsAskedWell found)
      → cond same (Some session) (session_numbered earlier n) ≡ Some found → IsAskedWell found
  numbered_at session earlier n true found now before is =
      let at : session ≡ found = cc in subst IsAskedWell at now
  numbered_at session earlier n false found now before is = before is

  well-numbered : (sessions : List Session) (n : ℕ) (found : Session) → AllByRecursion IsAskedWell sessions
      → session_numbered sessions n ≡ Some found → IsAskedWell found
  well-numbered [] n found all is = cc
  well-numbered (session ∷ earlier) n found all is =
      numbered_at session earlier n (length earlier == n) found all.0 (well-numbered earlier n found all.1) is

  well-on : (place : Place) (present : Option Session) → IfSome present IsAskedWell
      → AllByRecursion IsAskedWell place.earlier
      → AllByRecursion IsAskedWell (option_map_or (λ session. session ∷ place.earlier) present place.earlier)
  well-on place None now before = before
  well-on place (Some session) now before = (now, before)

  well-session : (steps : List StepForm) (seat n : ℕ) (session : Session)
      → session_of (world_after registry steps) seat n ≡ Some session → IsAskedWell session
  well-session steps seat n session is =
      let at = well-fold new_world steps (λ other. record { present = tt; earlier = tt }) seat in
      let place = (world_after registry steps).places seat in
      well-numbered (sessions_on place) n session (well-on place place.present at.present at.earlier) is

  -- the same of the seen view
  seen_end : (account : Account) (view : List Reached) (firing : Firing) (seen : Bool)
      → LinesEnd account (seen_view account registry view)
      → LinesEnd account (cond seen (firing_made firing ∷ seen_view account registry view) (seen_view account registry view))
  seen_end account view firing true h = h
  seen_end account view firing false h = h

  all_seen_end : (account : Account) (view : List Reached) → LinesEnd account view
      → LinesEnd account (seen_view account registry view)
  all_seen_end account [] h = h
  all_seen_end account (own_line line ∷ view) h = (
    all_seen_end account view h.0,
    ap (λ (life : List Item). list_any is_closing life) (life-seen_view account registry view) ∙ h.1,
  )
  all_seen_end account (firing_made firing ∷ view) h =
      seen_end account view firing (is_seen account registry (life_of account registry view) firing)
      (all_seen_end account view h)

  -- a seen view has no firing that isn't seen
  seen_again : (account : Account) (view : List Reached) (firing : Firing) (seen : Bool)
      → is_seen account registry (life_of account registry view) firing ≡ seen
      → seen_view account registry (seen_view account registry view) ≡ seen_view account registry view
      → seen_view account registry
      (cond seen (firing_made firing ∷ seen_view account registry view) (seen_view account registry view))
      ≡ cond seen (firing_made firing ∷ seen_view account registry view) (seen_view account registry view)
  seen_again account view firing true is before = rw (life-seen_view account registry view, is, before) refl
  seen_again account view firing false is before = before

  all_seen_again : (account : Account) (view : List Reached)
      → seen_view account registry (seen_view account registry view) ≡ seen_view account registry view
  all_seen_again account [] = refl
  all_seen_again account (own_line line ∷ view) =
      ap (λ (seen : List Reached). own_line line ∷ seen) (all_seen_again account view)
  all_seen_again account (firing_made firing ∷ view) =
      seen_again account view firing (is_seen account registry (life_of account registry view) firing) refl
      (all_seen_again account view)

  pub only_seen : (steps : List StepForm) (seat n : ℕ) (account : Account) (view : List Reached)
      → HasSeen registry steps seat n account view → seen_view account registry view ≡ view
  only_seen steps seat n account view h =
      subst (λ (seen : List Reached). seen_view account registry seen ≡ seen) h.seen
      (all_seen_again account h.session.view)

-- a legal trail that tells such a view
ends_in_trail : (account : Account) (contents : Contents) (past : List WrittenItem) → IsLegal account contents past
    → LinesEnd contents.registry account (view_told contents past) → EndsAtClose account contents past
ends_in_trail account contents [] legal h = tt
ends_in_trail account contents (line_asked line reply ∷ past) legal h = (
  ends_in_trail account contents past legal.0 h.0,
  ap (λ (life : List Item). list_any is_closing life) (life_told account contents past legal.0) ∙ h.1,
)
ends_in_trail account contents (long_asked reply ∷ past) legal h = (
  ends_in_trail account contents past legal.0 h.0,
  ap (λ (life : List Item). list_any is_closing life) (life_told account contents past legal.0) ∙ h.1,
)
ends_in_trail account contents (fired_at cpu place ∷ past) legal h =
    let firing = legal.1.1 in
    (ends_in_trail account contents past legal.0 (rw firing.1 at h), tt)

pub ends_at_close : (contents : Contents) (steps : List StepForm) (seat n : ℕ) (account : Account)
    (past : List WrittenItem)
    → HasSeen contents.registry steps seat n account (view_told contents past) → IsLegal account contents past
    → EndsAtClose account contents past
ends_at_close contents steps seat n account past h legal =
    let well = well-session contents.registry steps seat n h.session h.found in
    let own : LinesEnd contents.registry account h.session.view =
    subst (λ (one : Account). LinesEnd contents.registry one h.session.view) h.owner well.lines in
    let seen : LinesEnd contents.registry account (view_told contents past) =
    subst (λ (view : List Reached). LinesEnd contents.registry account view) h.seen
    (all_seen_end contents.registry account h.session.view own) in
    ends_in_trail account contents past legal seen
