-- Each step keeps what is published sound.
use Rattle.std.proofs.Common.{◌≡◌, ℕ, ◌<◌, ◌≤◌, ◌&&◌, ◌==◌, Bool, true, false, cond, List, [], ◌∷◌, Option, Some, None}
use Rattle.std.proofs.Common.{IfSome, IsSomeAnd, Result, Ok, is_none, nat_lt, fold, length, refl, sym, ap, ◌∙◌, subst}
use Rattle.std.proofs.Common.{arith}
use Rattle.std.proofs.lemmas.Bool.{eqb-true, eq-eqb, ltb-true, and_parts, not-true, both_ways, cond_both, false_from_ne_true}
use Rattle.std.specs.Option.{option_map, option_map_or}
use Rattle.dt_cred.specs.declared.account.Account.{Account}
use Rattle.dt_machine.specs.Registry.{Registry}
use Rattle.dt_machine.specs.Shown.{IsShown}
use Rattle.dt_cred.specs.declared.firing.Firing.{Firing}
use Rattle.dt_chain.specs.Look.{NamesFiring}
use Rattle.dt_chain.specs.Writes.{Published, published_on}
use Rattle.dt_chain.specs.declared.seat.TheConstants.{SEATS}
use Rattle.dt_ecb.specs.Ecbs.{EcbForm, ecbs_of}
use Rattle.dt_life.specs.Ask.{Ask, go}
use Rattle.dt_life.specs.Acceptance.{IsAcceptedGo, after_line}
use Rattle.dt_life.specs.Life.{Item, asked, fired, set_up, is_over, phase, ecbs, is_active}
use Rattle.dt_life.specs.declared.phase.Phase.TheVariants.{Inactive, Active}
use Rattle.dt_life.specs.declared.refusal.Refusal.{Refusal}
use Rattle.dt_proto.specs.Alone.{firing_made}
use Rattle.dt_proto.specs.Line.{ask_in}
use Rattle.dt_proto.specs.Lines.{LineForm}
use Rattle.dt_proto.specs.Session.{session_account}
use Rattle.dt_steps.specs.Sound.{IsOfSession, IsDueToShown, publication_of, IsSoundSession, IsSoundSeat}
use Rattle.dt_steps.specs.Sound.{IsSoundWorld}
use Rattle.dt_steps.specs.Steps.{StepForm, opens, asks, publishes, finishes, withdraws, looks, offers, closes, after_step}
use Rattle.dt_steps.specs.Steps.{world_after, with_session, answering, opening, asking, publishing, finishing}
use Rattle.dt_steps.specs.Steps.{withdrawing, passed, looking, is_done, offered, offering, closing}
use Rattle.dt_life.specs.Tests.{is_seen}
use Rattle.dt_ecb.specs.Interest.{interest_of}
use Rattle.dt_chain.specs.Tests.{mask_of}
use Rattle.dt_steps.specs.World.{World, Session, Place, Pending, DueOffer, new_world, number_on, life_in, is_tracing}
use Rattle.dt_steps.specs.World.{new_session, account_numbered, reached, answered, waiting, may_ask, accepts_go}
use Rattle.dt_steps.specs.World.{may_withdraw}
use Rattle.dt_chain.specs.laws.Tests.{mask_is_look}
use Rattle.dt_life.specs.laws.Beginning.{inactive_from}
use Rattle.dt_steps.proofs.Accounts.{KeepsAccounts, keeps_all, keeps_changed, keeps_opened, keeps_closed, keeps_offered}
use Rattle.dt_steps.proofs.Accounts.{keeps_passed, own_number, of_later, due_later}
use Rattle.dt_steps.proofs.Beginning.{accepts_from, accepts_to}
use Rattle.dt_life.specs.laws.Keeping.{Keeps, may_begin, life-after_line, life-fired, ecbs-go}
use Rattle.dt_life.specs.laws.Seeing.{seen_from}

-- what holds at each seat, where what is on one of them changes
updated_at : (P : ℕ → Place → Type 0) (places : ℕ → Place) (seat other : ℕ) (place : Place) (same : Bool)
    → (seat == other) ≡ same → ((seat == other) ≡ false → P other (places other)) → P seat place
    → P other (cond same place (places other))
updated_at P places seat other place true is before now =
    let at : seat ≡ other = eqb-true seat other is in subst (λ o. P o place) at now
updated_at P places seat other place false is before now = before is

pub updated_others : (P : ℕ → Place → Type 0) (places : ℕ → Place) (seat : ℕ) (place : Place)
    → ((other : ℕ) → (seat == other) ≡ false → P other (places other)) → P seat place
    → (other : ℕ) → P other (cond (seat == other) place (places other))
updated_others P places seat place before now other =
    updated_at P places seat other place (seat == other) refl (before other) now

pub updated : (P : ℕ → Place → Type 0) (places : ℕ → Place) (seat : ℕ) (place : Place)
    → ((other : ℕ) → P other (places other)) → P seat place
    → (other : ℕ) → P other (cond (seat == other) place (places other))
updated P places seat place before now other =
    updated_at P places seat other place (seat == other) refl (λ no. before other) now

-- the same where a publication changes as well
both_at : (P : ℕ → Option Published → Place → Type 0) (places : ℕ → Place) (publications : ℕ → Option Published)
    (seat other : ℕ) (place : Place) (publication : Option Published) (same : Bool) → (seat == other) ≡ same
    → P other (publications other) (places other) → P seat publication place
    → P other (cond same publication (publications other)) (cond same place (places other))
both_at P places publications seat other place publication true is before now =
    let at : seat ≡ other = eqb-true seat other is in subst (λ o. P o publication place) at now
both_at P places publications seat other place publication false is before now = before

both_updated : (P : ℕ → Option Published → Place → Type 0) (places : ℕ → Place) (publications : ℕ → Option Published)
    (seat : ℕ) (place : Place) (publication : Option Published)
    → ((other : ℕ) → P other (publications other) (places other)) → P seat publication place
    → (other : ℕ) → P other (cond (seat == other) publication (publications other)) (cond (seat == other) place (places other))
both_updated P places publications seat place publication before now other =
    both_at P places publications seat other place publication (seat == other) refl (before other) now

publication_updated_at : (P : ℕ → Option Published → Type 0) (publications : ℕ → Option Published)
    (seat other : ℕ) (publication : Option Published) (same : Bool) → (seat == other) ≡ same
    → P other (publications other) → P seat publication → P other (cond same publication (publications other))
publication_updated_at P publications seat other publication true is before now =
    let at : seat ≡ other = eqb-true seat other is in subst (λ o. P o publication) at now
publication_updated_at P publications seat other publication false is before now = before

publication_updated : (P : ℕ → Option Published → Type 0) (publications : ℕ → Option Published) (seat : ℕ)
    (publication : Option Published)
    → ((other : ℕ) → P other (publications other)) → P seat publication
    → (other : ℕ) → P other (cond (seat == other) publication (publications other))
publication_updated P publications seat publication before now other =
    publication_updated_at P publications seat other publication (seat == other) refl (before other) now

-- what holds of what a step leaves, where it depends on a session
pub option_case : {A B : Type 0} (P : B → Type 0) (f : A → B) (b : B) (o : Option A) → P b
    → ((a : A) → o ≡ Some a → P (f a)) → P (option_map_or f o b)
option_case P f b None h k = h
option_case P f b (Some a) h k = k a refl

none_of : {A : Type 0} (o : Option A) → is_none o ≡ true → o ≡ None
none_of None h = refl
none_of (Some a) h = cc

is_published : Option Pending → Bool
is_published pending = option_map_or (λ p. p.published) pending false

none_published : (line other : LineForm) → ◌≡◌ {A = Option Pending} (Some (record { line = line; published = false }))
    (Some (record { line = other; published = true })) → ⊥
unfolding is_published
none_published line other e = let bad : false ≡ true = ap is_published e in cc

-- what is published under the number of the session on a seat is of it
of_own : (seat : ℕ) (places : ℕ → Place) (place : Place) (one : Published)
    → IsOfSession place one → IsOfSession (cond (seat == seat) place (places seat)) one
of_own seat places place one is = rw (eq-eqb seat seat refl) is

-- a session on a seat, and nothing else, changes
module _ (registry : Registry) (account : Account) (n : ℕ) (publication : Option Published) where
  abbrev SoundSession : List Item → Option Pending → Type 0
  SoundSession life waits = IsSoundSession registry account life waits n publication

  -- what was published of a life stays where a later one traces
  kept_publication : (life later : List Item) (go : Option Pending)
      → Keeps (set_up account registry life) (set_up account registry later) → SoundSession life go
      → is_active (phase account registry later) ≡ true → publication ≡ Some (publication_of registry account later n)
  kept_publication life later waits keeps h a =
      h.traces (keeps.traced a)
      ∙ ap (λ clauses. Some (record {
        life = n;
        account = account;
        probes = interest_of (ecbs_of account registry clauses);
      }))
      (sym (keeps.clauses a))

  session-new : SoundSession [] None
  session-new = record { accepted = λ pending e. cc; traces = λ h. cc; published = λ line e. cc }

  not_begun : (life : List Item) (line : Result Ask Refusal)
      → (IsAcceptedGo account registry life line → ⊥) → is_over life ≡ false → line ≡ Ok go
      → may_begin account registry (set_up account registry life) ≡ false
  not_begun life line none over is =
      false_from_ne_true (may_begin account registry (set_up account registry life)) (λ may.
      let parts = and_parts _ _ may in
      none (over, inactive_from (phase account registry life) parts.0, parts.1, is))

  -- a line that is answered, and is no accepted `go`
  session-answered : (life : List Item) (line : Result Ask Refusal)
      → (IsAcceptedGo account registry life line → ⊥) → SoundSession life None → SoundSession (after_line life line) None
  session-answered life line none h = record {
    accepted = λ pending e. cc;
    traces = kept_publication life (after_line life line) None
        (life-after_line account registry life line (not_begun life line none)) h;
    published = λ other e. cc;
  }

  session-waiting : (life : List Item) (line : LineForm) → IsAcceptedGo account registry life (ask_in line)
      → SoundSession life None → SoundSession life (Some (record { line = line; published = false }))
  session-waiting life line is h = record {
    accepted = λ pending e.
        let same : record { line = line; published = false } ≡ pending = cc in
        subst (λ p. IsAcceptedGo account registry life (ask_in p.line)) same is;
    traces = h.traces;
    published = λ other e. absurd (none_published line other e);
  }

  -- a published `go` takes effect
  session-finished : (life : List Item) (line : LineForm)
      → SoundSession life (Some (record { line = line; published = true })) → SoundSession (after_line life (ask_in line)) None
  session-finished life line h =
      let is = h.accepted (record { line = line; published = true }) refl in
      let later : after_line life (ask_in line) ≡ asked (Ok go) ∷ life =
      ap (λ over. cond over life (asked (ask_in line) ∷ life)) is.0 ∙ ap (λ own. asked own ∷ life) is.3 in
      record {
        accepted = λ pending e. cc;
        traces = λ _. h.published line refl
            ∙ ap (λ (own : List EcbForm). Some (record { life = n; account = account; probes = interest_of own }))
            (sym (ap (ecbs account registry) later ∙ ecbs-go account registry life));
        published = λ other e. cc;
      }

  no_go : (life : List Item) (firing : Firing) (line : Result Ask Refusal)
      → is_seen account registry life firing ≡ true
      → IsAcceptedGo account registry life line → ⊥
  no_go life firing line seen is =
      let active = (seen_from account registry life firing seen).active in
      let both : Active ≡ Inactive = sym active ∙ is.1 in cc

  -- a firing reaches a session
  session-fired : (life : List Item) (go : Option Pending) (firing : Firing) (seen : Bool)
      → is_seen account registry life firing ≡ seen → SoundSession life go
      → SoundSession (cond seen (fired firing ∷ life) life) go
  session-fired life waits firing false is h = h
  session-fired life waits firing true is h = record {
    accepted = λ pending e. absurd (no_go life firing (ask_in pending.line) is (h.accepted pending e));
    traces = kept_publication life (fired firing ∷ life) waits (life-fired account registry life firing) h;
    published = λ line e. absurd (no_go life firing (ask_in line) is (h.accepted _ e));
  }

-- its interest is published
session-published : (registry : Registry) (account : Account) (n : ℕ) (publication : Option Published) (life : List Item)
    (line : LineForm) → IsSoundSession registry account life (Some (record { line = line; published = false })) n publication
    → IsSoundSession registry account life (Some (record { line = line; published = true })) n
    (Some (publication_of registry account life n))
session-published registry account n publication life line h = record {
  accepted = λ pending e.
      let same : record { line = line; published = true } ≡ pending = cc in
      subst (λ p. IsAcceptedGo account registry life (ask_in p.line)) same
      (h.accepted (record { line = line; published = false }) refl);
  traces = λ _. refl;
  published = λ other e. refl;
}

-- its publication is withdrawn, where it doesn't trace
session-withdrawn : (registry : Registry) (account : Account) (n : ℕ) (life : List Item)
    → is_active (phase account registry life) ≡ false → IsSoundSession registry account life None n None
session-withdrawn registry account n life quiet = record {
  accepted = λ pending e. cc;
  traces = λ a. absurd (both_ways (is_active (phase account registry life)) quiet a);
  published = λ line e. cc;
}

module _ (registry : Registry) where
  no_publication : (seat : ℕ) (publication : Option Published) (place : Place) (present : Option Session) → place.present ≡ present
      → IsSoundSeat registry seat publication place → SEATS ≤ seat → publication ≡ None
  no_publication seat publication place None is h past = (rw is at h) past
  no_publication seat publication place (Some session) is h past =
      let low : seat < SEATS = (rw is at h).0 in absurd (omega arith)

  -- a seat after a firing reached its session
  sound-reached : (seat : ℕ) (publication : Option Published) (place : Place) (session : Session) (firing : Firing)
      → place.present ≡ Some session → IsSoundSeat registry seat publication place
      → IsSoundSeat registry seat publication (record place { present = Some (reached session (firing_made firing)) })
  sound-reached seat publication place session firing is h =
      let before = rw is at h in (
        before.0,
        session-fired registry session.account (length place.earlier) publication (life_in registry session)
            session.go firing
            (is_seen session.account registry (life_in registry session) firing) refl before.1,
      )

  sound-passed : (seat : ℕ) (publication : Option Published) (place : Place) (firing : Firing) (named : Option ℕ)
      → IsSoundSeat registry seat publication place → IsSoundSeat registry seat publication (passed firing named place)
  sound-passed seat publication place firing named h =
      option_case (IsSoundSeat registry seat publication) _ place place.present h (λ session is.
      cond_both (option_map_or (λ life. life == length place.earlier) named false) _ _
      (IsSoundSeat registry seat publication)
      (λ own. h) (λ other. sound-reached seat publication place session firing is h))

  sound-offered : (seat : ℕ) (publication : Option Published) (place : Place) (due : DueOffer)
      → IsSoundSeat registry seat publication place → IsSoundSeat registry seat publication (offered due place)
  sound-offered seat publication place due h =
      option_case (IsSoundSeat registry seat publication) _ place place.present h (λ session is.
      cond_both (due.life == length place.earlier) _ _ (IsSoundSeat registry seat publication)
      (λ own. sound-reached seat publication place session due.firing is h) (λ other. h))

  module _ (world : World) (h : IsSoundWorld registry world) where
    -- the session on a seat
    at_session : (seat : ℕ) (session : Session) → (world.places seat).present ≡ Some session
        → (seat < SEATS) × IsSoundSession registry session.account (life_in registry session) session.go
        (number_on world seat) (published_on world.writes seat)
    at_session seat session is = rw is at (h.seats seat)

    -- where the sessions of each seat keep their accounts, what is published and due is of the same ones
    keeps_on : (seat : ℕ) (place : Place) → KeepsAccounts (world.places seat) place
        → (other : ℕ) → KeepsAccounts (world.places other) (cond (seat == other) place (world.places other))
    keeps_on seat place keeps =
        updated (λ other at. KeepsAccounts (world.places other) at) world.places seat place
        (λ other. keeps_all (world.places other)) keeps

    of_after : (later : ℕ → Place) → ((seat : ℕ) → KeepsAccounts (world.places seat) (later seat))
        → (seat : ℕ) → IfSome (published_on world.writes seat) (IsOfSession (later seat))
    of_after later keeps seat =
        of_later (world.places seat) (later seat) (published_on world.writes seat) (keeps seat) (h.publications seat)

    shown_after : (later : ℕ → Place) → ((seat : ℕ) → KeepsAccounts (world.places seat) (later seat))
        → (cpu seat : ℕ) → IfSome (world.due cpu seat) (IsDueToShown registry (later seat))
    shown_after later keeps cpu seat =
        due_later registry (world.places seat) (later seat) (world.due cpu seat) (keeps seat) (h.shown cpu seat)

    sound-with_session : (seat : ℕ) (session : Session) → seat < SEATS
        → IsSoundSession registry session.account (life_in registry session) session.go (number_on world seat)
        (published_on world.writes seat)
        → KeepsAccounts (world.places seat) (record { present = Some session; earlier = (world.places seat).earlier })
        → IsSoundWorld registry (with_session world seat session)
    sound-with_session seat session low own keeps =
        let place : Place = record { present = Some session; earlier = (world.places seat).earlier } in
        let all = keeps_on seat place keeps in
        record {
          seats = updated (λ other at. IsSoundSeat registry other (published_on world.writes other) at)
              world.places seat place h.seats (low, own);
          publications = of_after (λ other. cond (seat == other) place (world.places other)) all;
          due = h.due;
          shown = shown_after (λ other. cond (seat == other) place (world.places other)) all;
        }

    sound-answering : (seat : ℕ) (session : Session) (line : LineForm) → (world.places seat).present ≡ Some session
        → seat < SEATS
        → IsSoundSession registry session.account (life_in registry (answered session line)) None (number_on world seat)
        (published_on world.writes seat)
        → IsSoundWorld registry (answering world seat session line)
    sound-answering seat session line is low own =
        let one = sound-with_session seat (answered session line) low own
        (keeps_changed (world.places seat) session (answered session line) is refl) in
        record { seats = one.seats; publications = one.publications; due = one.due; shown = one.shown }

    pub sound-opening : (seat : ℕ) (name : List ℕ) → IsSoundWorld registry (opening registry world seat name)
    unfolding opening
    sound-opening seat name =
        cond_both (nat_lt seat SEATS && is_none (world.places seat).present) _ world (IsSoundWorld registry)
        (λ may. option_case (IsSoundWorld registry) _ world (session_account registry name) h (λ account is.
        sound-with_session seat (new_session account) (ltb-true seat SEATS ((and_parts _ _ may).0))
        (session-new registry account (number_on world seat) (published_on world.writes seat))
        (keeps_opened (world.places seat) (new_session account)
        (none_of (world.places seat).present ((and_parts _ _ may).1)))))
        (λ no. h)

    may_ask_none : (session : Session) → may_ask registry session ≡ true → session.go ≡ None
    unfolding may_ask
    may_ask_none session may = none_of session.go ((and_parts _ _ may).0)

    pub sound-asking : (seat : ℕ) (line : LineForm) → IsSoundWorld registry (asking registry world seat line)
    unfolding asking
    sound-asking seat line =
        option_case (IsSoundWorld registry) _ world (world.places seat).present h (λ session is.
        cond_both (may_ask registry session) _ world (IsSoundWorld registry)
        (λ may.
        let at = at_session seat session is in
        let idle : IsSoundSession registry session.account (life_in registry session) None (number_on world seat)
        (published_on world.writes seat) = rw (may_ask_none session may) at at.1 in
        cond_both (accepts_go registry session line) _ _ (IsSoundWorld registry)
        (λ begun. sound-with_session seat (waiting session line false) at.0
        (session-waiting registry session.account (number_on world seat) (published_on world.writes seat)
        (life_in registry session) line (accepts_from registry session line begun) idle)
        (keeps_changed (world.places seat) session (waiting session line false) is refl))
        (λ no. sound-answering seat session line is at.0
        (session-answered registry session.account (number_on world seat) (published_on world.writes seat)
        (life_in registry session) (ask_in line)
        (λ is_go. both_ways (accepts_go registry session line) no (accepts_to registry session line is_go)) idle)))
        (λ no. h))

    pub sound-publishing : (seat : ℕ) → IsSoundWorld registry (publishing registry world seat)
    unfolding publishing
    sound-publishing seat =
        option_case (IsSoundWorld registry) _ world (world.places seat).present h (λ session is.
        option_case (IsSoundWorld registry) _ world session.go h (λ pending pends.
        cond_both pending.published _ _ (IsSoundWorld registry) (λ done. h) (λ due.
        let at = at_session seat session is in
        let before : IsSoundSession registry session.account (life_in registry session)
        (Some (record { line = pending.line; published = false })) (number_on world seat)
        (published_on world.writes seat) =
        subst (λ waits. IsSoundSession registry session.account (life_in registry session) waits (number_on world seat)
        (published_on world.writes seat))
        (pends ∙ ap (λ b. Some (record { line = pending.line; published = b })) due) at.1 in
        let place : Place = record { present = Some (waiting session pending.line true); earlier = (world.places seat).earlier } in
        let publication = publication_of registry session.account (life_in registry session) (number_on world seat) in
        let all = keeps_on seat place (keeps_changed (world.places seat) session (waiting session pending.line true) is refl) in
        record {
          seats = both_updated (IsSoundSeat registry) world.places (published_on world.writes) seat place
              (Some publication) h.seats (
                at.0,
                session-published registry session.account (number_on world seat)
                    (published_on world.writes seat) (life_in registry session) pending.line before,
              );
          publications = λ other. publication_updated
              (λ one named. IfSome named (IsOfSession (cond (seat == one) place (world.places one))))
              (published_on world.writes) seat (Some publication)
              (of_after (λ one. cond (seat == one) place (world.places one)) all)
              (of_own seat world.places place publication
              (own_number (waiting session pending.line true) (world.places seat).earlier))
              other;
          due = h.due;
          shown = shown_after (λ one. cond (seat == one) place (world.places one)) all;
        })))

    pub sound-finishing : (seat : ℕ) → IsSoundWorld registry (finishing world seat)
    unfolding finishing
    sound-finishing seat =
        option_case (IsSoundWorld registry) _ world (world.places seat).present h (λ session is.
        option_case (IsSoundWorld registry) _ world session.go h (λ pending pends.
        cond_both pending.published _ _ (IsSoundWorld registry) (λ due.
        let at = at_session seat session is in
        let before : IsSoundSession registry session.account (life_in registry session)
        (Some (record { line = pending.line; published = true })) (number_on world seat)
        (published_on world.writes seat) =
        subst (λ waits. IsSoundSession registry session.account (life_in registry session) waits (number_on world seat)
        (published_on world.writes seat))
        (pends ∙ ap (λ b. Some (record { line = pending.line; published = b })) due) at.1 in
        sound-answering seat session pending.line is at.0
        (session-finished registry session.account (number_on world seat) (published_on world.writes seat)
        (life_in registry session) pending.line before))
        (λ no. h)))

    -- a seat whose publication is withdrawn
    withdrawn_seat : (seat : ℕ) (place : Place) (publication : Option Published) (present : Option Session)
        → place.present ≡ present → option_map_or (may_withdraw registry) place.present true ≡ true
        → IsSoundSeat registry seat publication place → IsSoundSeat registry seat None place
    unfolding may_withdraw
    withdrawn_seat seat place publication None is may at = rw is (λ past. refl)
    withdrawn_seat seat place publication (Some session) is may at =
        let before = rw is at at in
        let parts = and_parts _ _ (rw is at may) in
        let none : session.go ≡ None = none_of session.go parts.0 in
        let quiet : is_tracing registry session ≡ false = not-true (is_tracing registry session) parts.1 in
        rw is (
          before.0,
          rw none (session-withdrawn registry session.account (length place.earlier)
              (life_in registry session) quiet),
        )

    pub sound-withdrawing : (seat : ℕ) → IsSoundWorld registry (withdrawing registry world seat)
    unfolding withdrawing
    sound-withdrawing seat =
        cond_both (option_map_or (may_withdraw registry) (world.places seat).present true) _ world
        (IsSoundWorld registry)
        (λ may. record {
          seats = publication_updated (λ other publication. IsSoundSeat registry other publication (world.places other))
              (published_on world.writes) seat None h.seats
              (withdrawn_seat seat (world.places seat) (published_on world.writes seat) (world.places seat).present
              refl may
              (h.seats seat));
          publications = publication_updated (λ other publication. IfSome publication (IsOfSession (world.places other)))
              (published_on world.writes) seat None h.publications tt;
          due = h.due;
          shown = h.shown;
        })
        (λ no. h)

    none_named : (firing : Firing) (seat : ℕ) → SEATS ≤ seat → mask_of registry world.writes firing seat ≡ None
    unfolding mask_of
    none_named firing seat past =
        rw (no_publication seat (published_on world.writes seat) (world.places seat) (world.places seat).present refl
        (h.seats seat) past)
        refl

    due_at : (same : Bool) (cpu seat : ℕ) (firing : Firing) (named : Option ℕ) → named ≡ None → SEATS ≤ seat
        → cond same (option_map (λ life. record { life = life; firing = firing }) named) (world.due cpu seat) ≡ None
    due_at true cpu seat firing named none past = rw none refl
    due_at false cpu seat firing named none past = h.due cpu seat past

    -- what a look names is shown the firing
    named_shown : (place : Place) (firing : Firing) (life : ℕ) (publication : Option Published)
        → IfSome publication (IsOfSession place)
        → IsSomeAnd publication (λ one. (one.life ≡ life) × NamesFiring registry one firing)
        → IsDueToShown registry place (record { life = life; firing = firing })
    named_shown place firing life None of_one names = absurd names
    named_shown place firing life (Some one) of_one names =
        subst (λ o. IsSomeAnd o (λ account. IsShown account registry firing))
        (sym (ap (account_numbered place) (sym names.0) ∙ of_one)) names.1.admitted

    looked_shown : (seat : ℕ) (firing : Firing) (named : Option ℕ) → mask_of registry world.writes firing seat ≡ named
        → IfSome (option_map (λ life. record { life = life; firing = firing }) named)
        (IsDueToShown registry (world.places seat))
    looked_shown seat firing None is = tt
    looked_shown seat firing (Some life) is =
        named_shown (world.places seat) firing life (published_on world.writes seat) (h.publications seat)
        (((mask_is_look registry world.writes firing).exactly seat life).0 is)

    shown_looking : (same : Bool) (cpu seat : ℕ) (firing : Firing) (named : Option ℕ)
        → mask_of registry world.writes firing seat ≡ named
        → IfSome (cond same (option_map (λ life. record { life = life; firing = firing }) named) (world.due cpu seat))
        (IsDueToShown registry (passed firing named (world.places seat)))
    shown_looking true cpu seat firing named is =
        due_later registry (world.places seat) (passed firing named (world.places seat))
        (option_map (λ life. record { life = life; firing = firing }) named)
        (keeps_passed firing named (world.places seat)) (looked_shown seat firing named is)
    shown_looking false cpu seat firing named is =
        due_later registry (world.places seat) (passed firing named (world.places seat)) (world.due cpu seat)
        (keeps_passed firing named (world.places seat)) (h.shown cpu seat)

    pub sound-looking : (cpu : ℕ) (firing : Firing) → IsSoundWorld registry (looking registry world cpu firing)
    unfolding looking
    sound-looking cpu firing =
        cond_both (nat_lt cpu registry.cpus && (firing.cpu == cpu && is_done (world.due cpu))) _ world
        (IsSoundWorld registry)
        (λ may. record {
          seats = λ seat. sound-passed seat (published_on world.writes seat) (world.places seat) firing
              (mask_of registry world.writes firing seat) (h.seats seat);
          publications = of_after (λ seat. passed firing (mask_of registry world.writes firing seat) (world.places seat))
              (λ seat. keeps_passed firing (mask_of registry world.writes firing seat) (world.places seat));
          due = λ other seat past. due_at (other == cpu) other seat firing (mask_of registry world.writes firing seat)
              (none_named firing seat past) past;
          shown = λ other seat. shown_looking (other == cpu) other seat firing
              (mask_of registry world.writes firing seat) refl;
        })
        (λ no. h)

    no_due_at : (taken : Bool) (cpu seat : ℕ) → SEATS ≤ seat → cond taken None (world.due cpu seat) ≡ None
    no_due_at true cpu seat past = refl
    no_due_at false cpu seat past = h.due cpu seat past

    shown_taken : (taken : Bool) (cpu seat : ℕ) (later : Place) → KeepsAccounts (world.places seat) later
        → IfSome (cond taken None (world.due cpu seat)) (IsDueToShown registry later)
    shown_taken true cpu seat later keeps = tt
    shown_taken false cpu seat later keeps =
        due_later registry (world.places seat) later (world.due cpu seat) keeps (h.shown cpu seat)

    pub sound-offering : (cpu seat : ℕ) → IsSoundWorld registry (offering world cpu seat)
    unfolding offering
    sound-offering cpu seat =
        option_case (IsSoundWorld registry) _ world (world.due cpu seat) h (λ due is.
        let place = offered due (world.places seat) in
        let all = keeps_on seat place (keeps_offered due (world.places seat)) in
        record {
          seats = updated (λ other at. IsSoundSeat registry other (published_on world.writes other) at)
              world.places seat place h.seats
              (sound-offered seat (published_on world.writes seat) (world.places seat) due (h.seats seat));
          publications = of_after (λ other. cond (seat == other) place (world.places other)) all;
          due = λ other at past. no_due_at (other == cpu && at == seat) other at past;
          shown = λ other at. shown_taken (other == cpu && at == seat) other at
              (cond (seat == at) place (world.places at)) (all at);
        })

    pub sound-closing : (seat : ℕ) → IsSoundWorld registry (closing world seat)
    unfolding closing
    sound-closing seat =
        option_case (IsSoundWorld registry) _ world (world.places seat).present h (λ session is.
        let place : Place = record { present = None; earlier = session ∷ (world.places seat).earlier } in
        let all = keeps_on seat place (keeps_closed (world.places seat) session is) in
        record {
          seats = updated (λ other at. IsSoundSeat registry other (published_on world.writes other) at)
              world.places seat place h.seats
              (no_publication seat (published_on world.writes seat) (world.places seat) (world.places seat).present refl
              (h.seats seat));
          publications = of_after (λ other. cond (seat == other) place (world.places other)) all;
          due = h.due;
          shown = shown_after (λ other. cond (seat == other) place (world.places other)) all;
        })

  pub sound-start : IsSoundWorld registry new_world
  sound-start = record {
    seats = λ seat past. refl;
    publications = λ seat. tt;
    due = λ cpu seat past. refl;
    shown = λ cpu seat. tt;
  }

  pub sound-happens : (world : World) (step : StepForm) → IsSoundWorld registry world
      → IsSoundWorld registry (after_step registry world step)
  sound-happens world (opens seat name) h = sound-opening world h seat name
  sound-happens world (asks seat line) h = sound-asking world h seat line
  sound-happens world (publishes seat) h = sound-publishing world h seat
  sound-happens world (finishes seat) h = sound-finishing world h seat
  sound-happens world (withdraws seat) h = sound-withdrawing world h seat
  sound-happens world (looks cpu firing) h = sound-looking world h cpu firing
  sound-happens world (offers cpu seat) h = sound-offering world h cpu seat
  sound-happens world (closes seat) h = sound-closing world h seat

  sound-fold : (world : World) (steps : List StepForm) → IsSoundWorld registry world
      → IsSoundWorld registry (fold (after_step registry) world steps)
  sound-fold world [] h = h
  sound-fold world (step ∷ steps) h = sound-fold (after_step registry world step) steps (sound-happens world step h)

  pub sound-after : (steps : List StepForm) → IsSoundWorld registry (world_after registry steps)
  sound-after steps = sound-fold new_world steps sound-start
