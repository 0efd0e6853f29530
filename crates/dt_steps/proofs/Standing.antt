-- The seats with their consumers after each step.
use Rattle.std.proofs.Common.{◌≡◌, ◌≢◌, ℕ, zero, suc, ◌+◌, ◌^◌, ◌<◌, ◌≤◌, ◌&&◌, ◌==◌, Bool, true, false, cond, not}
use Rattle.std.proofs.Common.{List, ◌∷◌, Option, Some, None, is_none, is_some, IfSome, ◌↔◌, nat_lt, length}
use Rattle.std.proofs.Common.{get_or, set, MatchBool, MatchOption, ⊎_elim, refl, sym, ap, ◌∙◌, subst, arith}
use Rattle.std.proofs.lemmas.Bool.{eqb-true, eqb-false, eq-eqb, ne_eqb, ltb-true, lt-ltb, and_parts, and_from}
use Rattle.std.proofs.lemmas.Bool.{and_right, false_from_ne_true, cases_lt, cases_eq}
use Rattle.std.proofs.lemmas.List.{get_or-set_same, get_or-set_other, length-set, set-get_or}
use Rattle.std.proofs.lemmas.Option.{slice_get_read, slice_get_past, slice_get_within, slice_get-get_or}
use Rattle.std.specs.List.{slice_get, list_all, range_with_len}
use Rattle.std.specs.Option.{option_map, option_map_or, option_and_then}
use Rattle.dt_cred.specs.declared.account.Account.{Account}
use Rattle.dt_machine.specs.Context.{IsContext}
use Rattle.dt_machine.specs.Registry.{Registry}
use Rattle.dt_machine.specs.declared.context.Context.{Context}
use Rattle.dt_cred.specs.declared.firing.Firing.{Firing}
use Rattle.dt_chain.specs.IsAt as chain
use Rattle.dt_chain.specs.Look.{IsLook}
use Rattle.dt_chain.specs.Seats.{has, life_at}
use Rattle.dt_chain.specs.Writes.{Write, Published, published, withdrawn, published_on}
use Rattle.dt_chain.specs.declared.entries.Entries.{Entries}
use Rattle.dt_chain.specs.declared.seat.TheConstants.{SEATS}
use Rattle.dt_chain.specs.declared.seat_set.SeatSet.{SeatSet}
use Rattle.dt_life.specs.Life.{ecbs}
use Rattle.dt_proto.specs.Alone.{firing_made}
use Rattle.dt_proto.specs.Lines.{LineForm}
use Rattle.dt_proto.specs.Session.{session_account}
use Rattle.dt_steps.specs.Sound.{IsDueToShown, IsSoundSeat, IsSoundWorld}
use Rattle.dt_steps.specs.Stands.{IsSession, IsPresent, IsPlace, IsAsked, IsAskedOn, IsFinishing, IsFinishedOn}
use Rattle.dt_steps.specs.Stands.{IsPublishedOn, WorldIsKept, IsAnswered, IsNaming, with_present, opened_on, closed_on}
use Rattle.dt_steps.specs.Stands.{due_of, due_in, sees_on, seen_in}
use Rattle.dt_steps.specs.Steps.{with_place, with_session, question_of, answering, opening, asking, publishing}
use Rattle.dt_steps.specs.Steps.{publishing_of, finishing, withdrawing, passed, looking, is_done, offered, offering}
use Rattle.dt_steps.specs.Steps.{closing}
use Rattle.dt_life.specs.Tests.{is_seen}
use Rattle.dt_chain.specs.Tests.{is_named, mask_of}
use Rattle.dt_ecb.specs.Interest.{interest_of}
use Rattle.dt_steps.specs.World as worlds
use Rattle.dt_steps.specs.World.{World, DueOffer, number_on, life_in, new_session, reached}
use Rattle.dt_steps.specs.World.{answered, waiting, may_ask, accepts_go, may_withdraw}
use Rattle.dt_steps.specs.declared.place.Place.{Place}
use Rattle.dt_steps.specs.declared.due.DueOffers.{DueOffers}
use Rattle.dt_steps.specs.declared.session.Session.{Session}
use Rattle.dt_chain.specs.laws.Tests.{mask_is_look}
use Rattle.dt_steps.specs.laws.Unseen.{unseen_unless_named}

-- what holds of what a step leaves, where it depends on a session or on none
option_both : {A B : Type 0} (P : B → Type 0) (f : A → B) (b : B) (o : Option A) → (o ≡ None → P b)
    → ((a : A) → o ≡ Some a → P (f a)) → P (option_map_or f o b)
option_both P f b None h k = h refl
option_both P f b (Some a) h k = k a refl

-- one element of a list is another now
get_set_at : {A : Type 0} (P : Option A → Type 0) (xs : List A) (i j : ℕ) (x : A) (same : Bool) → (i == j) ≡ same
    → i < length xs → (same ≡ true → P (Some x)) → (same ≡ false → P (slice_get xs j))
    → P (slice_get (set xs i x) j)
get_set_at P xs i j x true is low here there =
    let at : i ≡ j = eqb-true i j is in
    let found : slice_get (set xs i x) j ≡ Some x =
    ap (slice_get (set xs i x)) (sym at)
    ∙ slice_get-get_or (set xs i x) i x (omega (arith, length-set xs i x))
    ∙ ap Some (get_or-set_same xs i x x low) in
    subst P (sym found) (here refl)
get_set_at P xs i j x false is low here there =
    ⊎_elim
    (λ (within : j < length xs).
    let other : j ≢ i = λ e. eqb-false i j is (sym e) in
    let now : slice_get (set xs i x) j ≡ Some (get_or (set xs i x) j x) =
    slice_get-get_or (set xs i x) j x (omega (arith, length-set xs i x)) in
    let was : slice_get xs j ≡ Some (get_or xs j x) = slice_get-get_or xs j x within in
    let kept : get_or (set xs i x) j x ≡ get_or xs j x = get_or-set_other xs i j x x other in
    subst P (was ∙ ap Some (sym kept) ∙ sym now) (there refl))
    (λ (past : length xs ≤ j).
    let none : slice_get (set xs i x) j ≡ None = slice_get_past (set xs i x) j (omega (arith, length-set xs i x)) in
    let before : slice_get xs j ≡ None = slice_get_past xs j past in
    subst P (before ∙ sym none) (there refl))
    (cases_lt j (length xs))

-- what was read of a list is the element there
pub read_at : {A : Type 0} (xs ys : List A) (i : ℕ) (found value : A) → ys ≡ xs → true ≡ nat_lt i (length ys)
    → found ≡ get_or ys i found → found ≡ value → slice_get xs i ≡ Some value
read_at xs ys i found value same low read is =
    let within : i < length ys = ltb-true i (length ys) (sym low) in
    ap (λ list. slice_get list i) (sym same) ∙ slice_get-get_or ys i found within ∙ ap Some (sym read) ∙ ap Some is

-- what a call found on a seat
pub record Found (seats : List Place) (at seat : ℕ) (held : Place) : Type 0 where
  pub is : at ≡ seat
  pub low : at < SEATS
  pub read : held ≡ get_or seats at held

module _ (registry : Registry) where
  -- what is on a seat after the calls on it, in the words of its session
  held_session : (place : worlds.Place) (session : worlds.Session) (held : Place) (served : Session)
      → held.earlier ≡ length place.earlier → held.present ≡ Some served → IsSession registry session served
      → IsPlace registry (with_present place session) held
  held_session place session held served counted is kept = record { counted = counted; present = rw is kept }

  -- the same session is served
  held_same : (place : worlds.Place) (session : worlds.Session) (held : Place) (served : Session) → place.present ≡ Some session
      → held.earlier ≡ length place.earlier → held.present ≡ Some served → IsSession registry session served
      → IsPlace registry place held
  held_same place session held served at counted is kept = record {
    counted = counted;
    present = present_same place.present held.present at is kept;
  } where
    present_same : (present : Option worlds.Session) (served_ : Option Session) → present ≡ Some session
        → served_ ≡ Some served → IsSession registry session served → IsPresent registry present served_
    present_same present served_ e f kept = rw (e, f) kept

  module _ (world : World) (seats : List Place) (publications : Entries) (processors : List DueOffers)
      (kept : WorldIsKept registry world seats publications processors) where
    module _ (at seat : ℕ) (held : Place) (found : Found seats at seat held) where
      seat_low : seat < SEATS
      seat_low = let is = found.is in let low = found.low in omega arith

      pub held_at : IsPlace registry (world.places seat) held
      held_at =
          let long = kept.all in
          let low = found.low in
          let there : slice_get seats at ≡ Some held =
          slice_get_read seats (length seats) at held refl (omega arith) found.read in
          let same : slice_get seats seat ≡ Some held = sym (ap (slice_get seats) found.is) ∙ there in
          rw same at (kept.places seat)

      -- what is kept after something changed on this seat
      kept_seat : (places : ℕ → worlds.Place) (place : worlds.Place) (after : Place)
          → ((other : ℕ) → IfSome (slice_get seats other) (IsPlace registry (places other)))
          → IsPlace registry place after → (other : ℕ)
          → IfSome (slice_get (set seats at after) other) (IsPlace registry (cond (seat == other) place (places other)))
      kept_seat places place after before now other =
          let long = kept.all in
          let low = found.low in
          get_set_at (λ o. IfSome o (IsPlace registry (cond (seat == other) place (places other)))) seats at other after
          (at == other) refl (omega arith)
          (λ same. let own : (seat == other) ≡ true = ap (λ n. n == other) (sym found.is) ∙ same in rw own now)
          (λ same. let own : (seat == other) ≡ false = ap (λ n. n == other) (sym found.is)
          ∙ same in rw own (before other))

      set_all : (after : Place) → length (set seats at after) ≡ SEATS
      set_all after = length-set seats at after ∙ kept.all

      -- the session on this seat is another, or what is on it
      kept-with_place : (place : worlds.Place) (after : Place) → IsPlace registry place after
          → WorldIsKept registry (with_place world seat place) (set seats at after) publications processors
      kept-with_place place after h = record {
        all = set_all after;
        places = kept_seat world.places place after kept.places h;
        published = kept.published;
        cpus = kept.cpus;
        due = kept.due;
        contexts = kept.contexts;
      }

      -- nothing changed there
      kept_same_at : (after : Place) (other : ℕ) → IsPlace registry (world.places seat) after
          → IfSome (slice_get (set seats at after) other) (IsPlace registry (world.places other))
      kept_same_at after other h =
          let long = kept.all in
          let low = found.low in
          get_set_at (λ o. IfSome o (IsPlace registry (world.places other))) seats at other after (at == other) refl
          (omega arith)
          (λ same.
          let own : seat ≡ other = sym found.is ∙ eqb-true at other same in
          subst (λ n. IsPlace registry (world.places n) after) own h)
          (λ same. kept.places other)

      kept_same : (after : Place) → IsPlace registry (world.places seat) after
          → WorldIsKept registry world (set seats at after) publications processors
      kept_same after h = record {
        all = set_all after;
        places = λ other. kept_same_at after other h;
        published = kept.published;
        cpus = kept.cpus;
        due = kept.due;
        contexts = kept.contexts;
      }

      kept-answering : (session : worlds.Session) (line : LineForm) (after : Place)
          → IsPlace registry (with_present (world.places seat) (answered session line)) after
          → WorldIsKept registry (answering world seat session line) (set seats at after) publications processors
      kept-answering session line after h =
          let one = kept-with_place (with_present (world.places seat) (answered session line)) after h in
          record { all = one.all; places = one.places; published = one.published; cpus = one.cpus; due = one.due; contexts = one.contexts }

      -- Open
      pub kept-opening : (name : List ℕ) (after : Place)
          → ((place : worlds.Place) → IsPlace registry place held → IsPlace registry (opened_on registry place name) after)
          → WorldIsKept registry (opening registry world seat name) (set seats at after) publications processors
      unfolding opening
      kept-opening name after opens =
          let here : nat_lt seat SEATS ≡ true = lt-ltb seat SEATS seat_low in
          opened_at (is_some (world.places seat).present) (session_account registry name) refl refl here after
          (opens (world.places seat) held_at) where
            opened_at : (taken : Bool) (account : Option Account) → is_some (world.places seat).present ≡ taken
                → session_account registry name ≡ account → nat_lt seat SEATS ≡ true → (after : Place)
                → IsPlace registry (opened_on registry (world.places seat) name) after
                → WorldIsKept registry (cond (nat_lt seat SEATS && not (is_some (world.places seat).present))
                (option_map_or (λ own. with_session world seat (new_session own))
                (session_account registry name) world)
                world) (set seats at after) publications processors
            opened_at true account taken is here after h =
                rw (here, taken) (kept_same after (rw taken at h))
            opened_at false None taken is here after h =
                rw (here, taken, is) (kept_same after (rw (taken, is) at h))
            opened_at false (Some own) taken is here after h =
                rw (here, taken, is) (kept-with_place (with_present (world.places seat) (new_session own)) after
                (rw (taken, is) at h))

      -- Ask
      Asked : LineForm → Option (List ℕ) → Place → World → Type 0
      Asked line reply after later =
          WorldIsKept registry later (set seats at after) publications processors
          × IsAnswered registry world later seat reply

      asked_begun : (session : worlds.Session) (line : LineForm) (reply : Option (List ℕ)) (after : Place) (served : Session)
          → after.earlier ≡ length (world.places seat).earlier → after.present ≡ Some served
          → IsAsked registry session line reply served
          → Asked line reply after (cond (accepts_go registry session line)
          (with_session world seat (waiting session line false)) (answering world seat session line))
      unfolding Asked
      asked_begun session line None after served counted is h = (
        rw h.0 (kept-with_place (with_present (world.places seat) (waiting session line false)) after
            (held_session (world.places seat) (waiting session line false) after served counted is h.1)),
        rw h.0 refl,
      )
      asked_begun session line (Some text) after served counted is h = (
        rw h.0 (kept-answering session line after
            (held_session (world.places seat) (answered session line) after served counted is h.1)),
        rw h.0 (question_of world seat session line, refl, (refl, h.2)),
      )

      pub kept-asking : (line : LineForm) (reply : Option (List ℕ)) (after : Place)
          → ((place : worlds.Place) → IsPlace registry place held → IsAskedOn registry place line reply after)
          → WorldIsKept registry (asking registry world seat line) (set seats at after) publications processors
          × IsAnswered registry world (asking registry world seat line) seat reply
      unfolding asking Asked
      kept-asking line reply after asks =
          asked_case (world.places seat).present (asks (world.places seat) held_at) where
            may_case : (session : worlds.Session) (may : Bool)
                → MatchBool may
                ((served : Session) × (after.earlier ≡ length (world.places seat).earlier)
                × (after.present ≡ Some served)
                × IsAsked registry session line reply served)
                ((reply ≡ None) × IsPlace registry (world.places seat) after)
                → Asked line reply after (cond may (cond (accepts_go registry session line)
                (with_session world seat (waiting session line false)) (answering world seat session line)) world)
            may_case session true h = asked_begun session line reply after h.0 h.1 h.2 h.3
            may_case session false h = (kept_same after h.1, rw h.0 refl)

            asked_case : (present : Option worlds.Session)
                → MatchOption present ((reply ≡ None) × IsPlace registry (world.places seat) after)
                (λ session. MatchBool (may_ask registry session)
                ((served : Session) × (after.earlier ≡ length (world.places seat).earlier)
                × (after.present ≡ Some served)
                × IsAsked registry session line reply served)
                ((reply ≡ None) × IsPlace registry (world.places seat) after))
                → Asked line reply after (option_map_or (λ session. cond (may_ask registry session)
                (cond (accepts_go registry session line) (with_session world seat (waiting session line false))
                (answering world seat session line)) world) present world)
            asked_case None h = (kept_same after h.1, rw h.0 refl)
            asked_case (Some session) h = may_case session (may_ask registry session) h

      -- Finish
      Finished : Option (List ℕ) → Place → World → Type 0
      Finished reply after later =
          WorldIsKept registry later (set seats at after) publications processors
          × IsAnswered registry world later seat reply

      finished_on : (session : worlds.Session) (reply : Option (List ℕ)) (after : Place) (served : Session)
          → (world.places seat).present ≡ Some session
          → after.earlier ≡ length (world.places seat).earlier → after.present ≡ Some served
          → IsFinishing registry session reply served
          → Finished reply after (option_map_or (λ pending. cond pending.published
          (answering world seat session pending.line) world) session.go world)
      unfolding Finished
      finished_on session None after served at_ counted is h =
          let same : IsPlace registry (world.places seat) after =
          held_same (world.places seat) session after served at_ counted is h.1 in
          not_at session.go h.0 (kept_same after same, refl) where
            not_at : (pending : Option worlds.Pending) → option_map_or (λ (p : worlds.Pending). p.published) pending false ≡ false
                → Finished None after world
                → Finished None after (option_map_or
                (λ p. cond p.published (answering world seat session p.line) world) pending world)
            not_at None no_more same = same
            not_at (Some p) no_more same = rw no_more same
      finished_on session (Some text) after served at_ counted is h =
          rw (h.1, h.2) (
            kept-answering session h.0.line after
                (held_session (world.places seat) (answered session h.0.line) after served counted is h.4),
            (question_of world seat session h.0.line, refl, (refl, h.3)),
          )

      pub kept-finishing : (reply : Option (List ℕ)) (after : Place)
          → ((place : worlds.Place) → IsPlace registry place held → IsFinishedOn registry place reply after)
          → WorldIsKept registry (finishing world seat) (set seats at after) publications processors
          × IsAnswered registry world (finishing world seat) seat reply
      unfolding finishing Finished
      kept-finishing reply after finishes =
          finished_case (world.places seat).present refl (finishes (world.places seat) held_at) where
            finished_case : (present : Option worlds.Session) → (world.places seat).present ≡ present
                → MatchOption present ((reply ≡ None) × IsPlace registry (world.places seat) after)
                (λ session. (served : Session) × (after.earlier ≡ length (world.places seat).earlier)
                × (after.present ≡ Some served) × IsFinishing registry session reply served)
                → Finished reply after (option_map_or (λ session. option_map_or (λ pending. cond pending.published
                (answering world seat session pending.line) world) session.go world) present world)
            finished_case None is h = (kept_same after h.1, rw h.0 refl)
            finished_case (Some session) is h = finished_on session reply after h.0 is h.1 h.2 h.3

      -- Close
      pub kept-closing : (after : Place)
          → ((place : worlds.Place) → length place.earlier + 1 < 2 ^ 64 → IsPlace registry place held
          → IsPlace registry (closed_on place) after)
          → number_on world seat + 1 < 2 ^ 64
          → WorldIsKept registry (closing world seat) (set seats at after) publications processors
      unfolding closing
      kept-closing after closes few =
          closed_case (λ session. record { present = None; earlier = session ∷ (world.places seat).earlier })
          (world.places seat).present (closes (world.places seat) few held_at) where
            closed_case : (f : worlds.Session → worlds.Place) (present : Option worlds.Session)
                → IsPlace registry (option_map_or f present (world.places seat)) after
                → WorldIsKept registry (option_map_or (λ session. with_place world seat (f session)) present world)
                (set seats at after) publications processors
            closed_case f None h = kept_same after h
            closed_case f (Some session) h = kept-with_place (f session) after h

      -- Publish
      kept_published : (session : worlds.Session) (pending : worlds.Pending) (after : Place) (later : Entries)
          → IsPlace registry (with_present (world.places seat) (waiting session pending.line true)) after
          → chain.EntriesAreAt (published seat (number_on world seat) session.account
          (interest_of (ecbs session.account registry (life_in registry session))) ∷ world.writes) later
          → WorldIsKept registry (publishing_of registry world seat session pending) (set seats at after) later
          processors
      kept_published session pending after later h now_published =
          let one = kept-with_place (with_present (world.places seat) (waiting session pending.line true)) after h in
          record { all = one.all; places = one.places; published = now_published; cpus = one.cpus; due = one.due; contexts = one.contexts }

      kept_publications : (after : Place) (later : Entries) → IsPlace registry (world.places seat) after
          → chain.EntriesAreAt world.writes later → WorldIsKept registry world (set seats at after) later processors
      kept_publications after later h now_published =
          let one = kept_same after h in
          record { all = one.all; places = one.places; published = now_published; cpus = one.cpus; due = one.due; contexts = one.contexts }

      pub kept-publishing : (after : Place) (later : Entries)
          → ((place : worlds.Place) (writes : List Write) → IsPlace registry place held → chain.EntriesAreAt writes publications
          → IsPublishedOn registry seat place writes after later)
          → WorldIsKept registry (publishing registry world seat) (set seats at after) later processors
      unfolding publishing
      kept-publishing after later publishes =
          published_case (world.places seat).present
          (publishes (world.places seat) world.writes held_at kept.published) where
            pending_case : (session : worlds.Session) (pending : worlds.Pending) (done : Bool)
                → MatchBool done (IsPlace registry (world.places seat) after × chain.EntriesAreAt world.writes later)
                (IsPlace registry (with_present (world.places seat) (waiting session pending.line true)) after
                × chain.EntriesAreAt (published seat (number_on world seat) session.account
                (interest_of (ecbs session.account registry (life_in registry session))) ∷ world.writes) later)
                → WorldIsKept registry (cond done world (publishing_of registry world seat session pending))
                (set seats at after) later processors
            pending_case session pending true h = kept_publications after later h.0 h.1
            pending_case session pending false h = kept_published session pending after later h.0 h.1

            go_case : (session : worlds.Session) (go : Option worlds.Pending)
                → MatchOption go (IsPlace registry (world.places seat) after × chain.EntriesAreAt world.writes later)
                (λ pending. MatchBool pending.published
                (IsPlace registry (world.places seat) after × chain.EntriesAreAt world.writes later)
                (IsPlace registry (with_present (world.places seat) (waiting session pending.line true)) after
                × chain.EntriesAreAt (published seat (number_on world seat) session.account
                (interest_of (ecbs session.account registry (life_in registry session))) ∷ world.writes) later))
                → WorldIsKept registry (option_map_or (λ pending. cond pending.published world
                (publishing_of registry world seat session pending)) go world) (set seats at after) later processors
            go_case session None h = kept_publications after later h.0 h.1
            go_case session (Some pending) h = pending_case session pending pending.published h

            published_case : (present : Option worlds.Session)
                → MatchOption present (IsPlace registry (world.places seat) after
                × chain.EntriesAreAt world.writes later)
                (λ session. MatchOption session.go
                (IsPlace registry (world.places seat) after × chain.EntriesAreAt world.writes later)
                (λ pending. MatchBool pending.published
                (IsPlace registry (world.places seat) after × chain.EntriesAreAt world.writes later)
                (IsPlace registry (with_present (world.places seat) (waiting session pending.line true)) after
                × chain.EntriesAreAt (published seat (number_on world seat) session.account
                (interest_of (ecbs session.account registry (life_in registry session))) ∷ world.writes) later)))
                → WorldIsKept registry (option_map_or
                (λ session. option_map_or (λ pending. cond pending.published world
                (publishing_of registry world seat session pending)) session.go world) present world)
                (set seats at after) later processors
            published_case None h = kept_publications after later h.0 h.1
            published_case (Some session) h = go_case session session.go h

      -- Withdraw
      pub kept-withdrawing : (told : Bool) (later : Entries)
          → ((place : worlds.Place) → IsPlace registry place held → told
          ≡ option_map_or (may_withdraw registry) place.present true)
          → (told ≡ true → (writes : List Write) → chain.EntriesAreAt writes publications
          → chain.EntriesAreAt (withdrawn seat ∷ writes) later)
          → (told ≡ false → later ≡ publications)
          → WorldIsKept registry (withdrawing registry world seat) seats later processors
      unfolding withdrawing
      kept-withdrawing told later tells does not_ =
          may_case told (option_map_or (may_withdraw registry) (world.places seat).present true)
          (tells (world.places seat) held_at) does not_ where
            may_case : (told_ may : Bool) → told_ ≡ may
                → (told_ ≡ true → (writes : List Write) → chain.EntriesAreAt writes publications
                → chain.EntriesAreAt (withdrawn seat ∷ writes) later)
                → (told_ ≡ false → later ≡ publications)
                → WorldIsKept registry (cond may (record world { writes = withdrawn seat ∷ world.writes }) world) seats
                later processors
            may_case told_ true is does_ none_ = record {
              all = kept.all;
              places = kept.places;
              published = does_ is world.writes kept.published;
              cpus = kept.cpus;
              due = kept.due;
              contexts = kept.contexts;
            }
            may_case told_ false is does_ none_ = record {
              all = kept.all;
              places = kept.places;
              published = subst (λ e. chain.EntriesAreAt world.writes e) (sym (none_ is)) kept.published;
              cpus = kept.cpus;
              due = kept.due;
              contexts = kept.contexts;
            }

-- what is named is one
same_life : (some other : Option ℕ) → ((life : ℕ) → (some ≡ Some life) ↔ (other ≡ Some life)) → some ≡ other
same_life None None h = refl
same_life None (Some life) h = (h life).1 refl
same_life (Some life) other h = sym ((h life).0 refl)

one_named : (registry : Registry) (writes : List Write) (firing : Firing) (lives : ℕ → Option ℕ)
    → IsLook registry writes firing lives → (seat : ℕ) → lives seat ≡ mask_of registry writes firing seat
one_named registry writes firing lives is seat =
    let mask = mask_is_look registry writes firing in
    same_life (lives seat) (mask_of registry writes firing seat) (λ life. (
      λ e. (mask.exactly seat life).1 ((is.exactly seat life).0 e),
      λ e. (is.exactly seat life).1 ((mask.exactly seat life).0 e),
    ))

-- a seat after a firing reached its session, which didn't see it
unseen_present : (registry : Registry) (session : worlds.Session) (firing : Firing) (served : Option Session)
    → is_seen session.account registry (life_in registry session) firing ≡ false
    → IsPresent registry (Some session) served
    → IsPresent registry (Some (reached session (firing_made firing))) served
unseen_present registry session firing None unseen h = h
unseen_present registry session firing (Some served) unseen h = rw unseen h

module _ (registry : Registry) where
  passed_held : (seat : ℕ) (publication : Option Published) (place : worlds.Place) (held : Place) (firing : Firing)
      → IsSoundSeat registry seat publication place → IsPlace registry place held
      → IsPlace registry (passed firing (option_and_then
      (λ one. cond (is_named registry one firing) (Some one.life) None) publication) place) held
  passed_held seat publication place held firing sound h =
      option_both (λ p. IsPlace registry p held) _ place place.present (λ none. h) (λ session is.
      cond_case session is (option_map_or (λ life. life == length place.earlier) (option_and_then
      (λ one. cond (is_named registry one firing) (Some one.life) None) publication) false) refl) where
        cond_case : (session : worlds.Session) → place.present ≡ Some session → (named : Bool)
            → option_map_or (λ life. life == length place.earlier) (option_and_then
            (λ one. cond (is_named registry one firing) (Some one.life) None) publication) false ≡ named
            → IsPlace registry (cond named place
            (record place { present = Some (reached session (firing_made firing)) })) held
        cond_case session is true named = h
        cond_case session is false named =
            let is_sound = rw is at sound in
            let unseen : is_seen session.account registry (life_in registry session) firing ≡ false =
            unseen_unless_named registry session.account (life_in registry session) (length place.earlier) firing
            session.go publication is_sound.1 named in
            record {
              counted = h.counted;
              present = unseen_present registry session firing held.present unseen (rw is at h.present);
            }

  held_each : (seats : List Place) (places later : ℕ → worlds.Place) (seat : ℕ) (found : Option Place)
      → slice_get seats seat ≡ found
      → ((held : Place) → IsPlace registry (places seat) held → IsPlace registry (later seat) held)
      → IfSome found (IsPlace registry (places seat)) → IfSome found (IsPlace registry (later seat))
  held_each seats places later seat None is keeps h = h
  held_each seats places later seat (Some held) is keeps h = keeps held h

  module _ (world : World) (seats : List Place) (publications : Entries) (processors : List DueOffers)
      (sound : IsSoundWorld registry world) (kept : WorldIsKept registry world seats publications processors) where
    -- whether a look is enabled
    done_all : (due : ℕ → Option DueOffer) (from count : ℕ) → ((seat : ℕ) → due seat ≡ None)
        → list_all (λ seat. is_none (due seat)) (range_with_len from count) ≡ true
    done_all due from zero none = refl
    done_all due from (suc count) none =
        and_from _ _ (ap is_none (none from)) (done_all due (from + 1) count none)

    all_done : (due : ℕ → Option DueOffer) (from count : ℕ)
        → list_all (λ seat. is_none (due seat)) (range_with_len from count) ≡ true
        → (seat : ℕ) → from ≤ seat → seat < from + count → is_none (due seat) ≡ true
    all_done due from zero h seat low high = absurd (omega arith)
    all_done due from (suc count) h seat low high =
        let parts = and_parts (is_none (due from))
        (list_all (λ s. is_none (due s)) (range_with_len (from + 1) count)) h in
        ⊎_elim
        (λ (same : from ≡ seat). subst (λ s. is_none (due s) ≡ true) same parts.0)
        (λ (other : from ≡ seat → ⊥).
        let more : from + 1 ≤ seat = omega (arith, low, other) in
        all_done due (from + 1) count parts.1 seat more (omega arith))
        (cases_eq from seat)

    none_of : {A : Type 0} (o : Option A) → is_none o ≡ true → o ≡ None
    none_of None h = refl
    none_of (Some a) h = cc

    done_from : (cpu : ℕ) → ((seat : ℕ) → world.due cpu seat ≡ None) → is_done (world.due cpu) ≡ true
    unfolding is_done
    done_from cpu none = done_all (world.due cpu) 0 SEATS none

    done_to : (cpu : ℕ) → is_done (world.due cpu) ≡ true → (seat : ℕ) → world.due cpu seat ≡ None
    unfolding is_done
    done_to cpu done seat =
        ⊎_elim
        (λ (low : seat < SEATS). none_of (world.due cpu seat)
        (all_done (world.due cpu) 0 SEATS done seat (omega arith) (omega arith)))
        (λ (high : SEATS ≤ seat). sound.due cpu seat high)
        (cases_lt seat SEATS)

    near : (cpu : ℕ) (looked : DueOffers) → slice_get processors cpu ≡ Some looked
        → nat_lt cpu registry.cpus ≡ true
    near cpu looked is =
        let cpus = kept.cpus in
        let low : cpu < length processors = slice_get_within processors cpu looked is in
        lt-ltb cpu registry.cpus (omega arith)

    pub done-looked : (cpu : ℕ) (looked : DueOffers) (told : Bool) → slice_get processors cpu ≡ Some looked
        → (told ≡ true → (seat : ℕ) → due_of looked seat ≡ None)
        → (told ≡ false → ((seat : ℕ) → due_of looked seat ≡ None) → ⊥)
        → told ≡ (nat_lt cpu registry.cpus && is_done (world.due cpu))
    done-looked cpu looked true is done busy =
        sym (and_from (nat_lt cpu registry.cpus) (is_done (world.due cpu)) (near cpu looked is)
        (done_from cpu (λ seat. kept.due cpu seat ∙ ap (λ o. due_in o seat) is ∙ done refl seat)))
    done-looked cpu looked false is done busy =
        let not_done : is_done (world.due cpu) ≡ false =
        false_from_ne_true (is_done (world.due cpu)) (λ none.
        busy refl (λ seat.
        sym (ap (λ o. due_in o seat) is) ∙ sym (kept.due cpu seat) ∙ done_to cpu none seat)) in
        sym (and_right (nat_lt cpu registry.cpus) (is_done (world.due cpu)) not_done)

    -- the lives that are due, of what a processor looked for
    pub left-looked : (cpu : ℕ) (looked : DueOffers) (life : Option ℕ) → slice_get processors cpu ≡ Some looked
        → (seat : ℕ) → life ≡ option_map (λ due. due.life) (due_of looked seat)
        → life ≡ option_map (λ due. due.life) (world.due cpu seat)
    left-looked cpu looked life is seat left =
        left ∙ ap (option_map (λ due. due.life)) (sym (kept.due cpu seat ∙ ap (λ o. due_in o seat) is))

    -- what a processor looked for is the machine's
    pub lent-looked : (cpu : ℕ) (looked : DueOffers) (context : Context) → slice_get processors cpu ≡ Some looked
        → looked.context ≡ Some context → IsContext registry context
    lent-looked cpu looked context is lent =
        subst (λ m. IfSome m (IsContext registry)) lent
        (subst (λ o. IfSome o (λ (one : DueOffers). IfSome one.context (IsContext registry))) is (kept.contexts cpu))

    -- what processors looked for are the machine's, where one looks anew, or still has what it looked for
    contexts_after : (cpu other : ℕ) (looked : DueOffers) → cpu < length processors
        → IfSome looked.context (IsContext registry)
        → IfSome (slice_get (set processors cpu looked) other) (λ one. IfSome one.context (IsContext registry))
    contexts_after cpu other looked low context =
        get_set_at (λ o. IfSome o (λ (one : DueOffers). IfSome one.context (IsContext registry)))
        processors cpu other looked (cpu == other) refl low (λ same. context) (λ same. kept.contexts other)

    pub left-past : (cpu : ℕ) → length processors ≤ cpu → (seat : ℕ)
        → None ≡ option_map (λ due. due.life) (world.due cpu seat)
    left-past cpu high seat =
        let none : world.due cpu seat ≡ None =
        kept.due cpu seat ∙ ap (λ o. due_in o seat) (slice_get_past processors cpu high) in rw none refl

    -- Look
    due_after : (cpu other seat : ℕ) (firing : Firing) (looked : DueOffers) → cpu < registry.cpus
        → ((at : ℕ) → life_at looked.left at ≡ mask_of registry world.writes firing at)
        → ((at : ℕ) → due_of looked at
        ≡ option_map (λ life. record { life = life; firing = firing }) (life_at looked.left at))
        → cond (other == cpu) (option_map (λ life. record { life = life; firing = firing })
        (mask_of registry world.writes firing seat)) (world.due other seat)
        ≡ due_in (slice_get (set processors cpu looked) other) seat
    due_after cpu other seat firing looked low named owes =
        let cpus = kept.cpus in
        get_set_at (λ o. cond (other == cpu) (option_map (λ life. record { life = life; firing = firing })
        (mask_of registry world.writes firing seat)) (world.due other seat) ≡ due_in o seat)
        processors cpu other looked (cpu == other) refl (omega arith)
        (λ same.
        let own : (other == cpu) ≡ true = eq-eqb other cpu (sym (eqb-true cpu other same)) in
        rw own (ap (option_map (λ life. record { life = life; firing = firing })) (sym (named seat))
        ∙ sym (owes seat)))
        (λ same.
        let own : (other == cpu) ≡ false = ne_eqb other cpu (λ e. eqb-false cpu other same (sym e)) in
        rw own (kept.due other seat))

    pub kept-looking : (cpu : ℕ) (firing : Firing) (looked : DueOffers) → (firing.cpu == cpu) ≡ true
        → (nat_lt cpu registry.cpus && is_done (world.due cpu)) ≡ true
        → IsLook registry world.writes firing (life_at looked.left)
        → ((at : ℕ) → due_of looked at
        ≡ option_map (λ life. record { life = life; firing = firing }) (life_at looked.left at))
        → IfSome looked.context (IsContext registry)
        → WorldIsKept registry (looking registry world cpu firing) seats publications (set processors cpu looked)
    unfolding looking mask_of
    kept-looking cpu firing looked own enabled look owes context =
        let cpus = kept.cpus in
        let parts = and_parts (nat_lt cpu registry.cpus) (is_done (world.due cpu)) enabled in
        let named = one_named registry world.writes firing (life_at looked.left) look in
        let may : (nat_lt cpu registry.cpus && (firing.cpu == cpu && is_done (world.due cpu))) ≡ true =
        and_from _ _ parts.0 (and_from _ _ own parts.1) in
        rw may (record {
          all = kept.all;
          places = λ seat. held_each seats world.places
              (λ at. passed firing (mask_of registry world.writes firing at) (world.places at)) seat
              (slice_get seats seat) refl
              (λ held h. passed_held seat (published_on world.writes seat) (world.places seat) held firing
              (sound.seats seat) h)
              (kept.places seat);
          published = kept.published;
          cpus = length-set processors cpu looked ∙ kept.cpus;
          due = λ other seat. due_after cpu other seat firing looked
              (ltb-true cpu registry.cpus parts.0) named owes;
          contexts = λ other. contexts_after cpu other looked
              (omega (arith, ltb-true cpu registry.cpus parts.0)) context;
        })

    -- what the look named are the seats to which offers are due then
    pub naming-looking : (cpu : ℕ) (firing : Firing) (looked : DueOffers) (seats_named : SeatSet)
        → (firing.cpu == cpu) ≡ true → (nat_lt cpu registry.cpus && is_done (world.due cpu)) ≡ true
        → IsLook registry world.writes firing (life_at looked.left)
        → ((at : ℕ) → due_of looked at
        ≡ option_map (λ life. record { life = life; firing = firing }) (life_at looked.left at))
        → IfSome looked.context (IsContext registry)
        → ((at : ℕ) → has seats_named at ≡ is_some (due_of looked at))
        → IsNaming registry world cpu firing (Some seats_named)
    naming-looking cpu firing looked seats_named own enabled look owes context named =
        let parts = and_parts (nat_lt cpu registry.cpus) (is_done (world.due cpu)) enabled in
        let cpus = kept.cpus in
        let later = kept-looking cpu firing looked own enabled look owes context in
        let low : cpu < length processors = omega (arith, ltb-true cpu registry.cpus parts.0) in
        let long : cpu < length (set processors cpu looked) = omega (arith, length-set processors cpu looked) in
        let found : slice_get (set processors cpu looked) cpu ≡ Some looked =
        slice_get-get_or (set processors cpu looked) cpu looked long
        ∙ ap Some (get_or-set_same processors cpu looked looked low) in (
          and_from _ _ parts.0 (and_from _ _ own parts.1),
          λ seat. named seat ∙ ap is_some (sym (later.due cpu seat ∙ ap (λ o. due_in o seat) found)),
        )

    -- it isn't enabled
    pub naming-not : (cpu : ℕ) (firing : Firing)
        → ((firing.cpu == cpu) && (nat_lt cpu registry.cpus && is_done (world.due cpu))) ≡ false
        → IsNaming registry world cpu firing None
    naming-not cpu firing no_look =
        swap_and (firing.cpu == cpu) (nat_lt cpu registry.cpus) (is_done (world.due cpu)) no_look where
          swap_and : (a b c : Bool) → (a && (b && c)) ≡ false → (b && (a && c)) ≡ false
          swap_and true b c h = h
          swap_and false true c h = refl
          swap_and false false c h = refl

    pub kept-looking-not : (cpu : ℕ) (firing : Firing) → IsNaming registry world cpu firing None
        → IsSoundWorld registry (looking registry world cpu firing)
        × WorldIsKept registry (looking registry world cpu firing) seats publications processors
    unfolding looking
    kept-looking-not cpu firing no_look = rw no_look (sound, kept)

    -- Offer
    -- no offer is left to the seat
    pub offering-none : (cpu seat : ℕ) → due_in (slice_get processors cpu) seat ≡ None
        → offering world cpu seat ≡ world
    unfolding offering
    offering-none cpu seat none =
        let is : world.due cpu seat ≡ None = kept.due cpu seat ∙ none in rw is refl

    -- no firing is seen
    pub seen-none : (cpu seat : ℕ) → due_in (slice_get processors cpu) seat ≡ None
        → seen_in registry world cpu seat ≡ None
    seen-none cpu seat none = let is : world.due cpu seat ≡ None = kept.due cpu seat ∙ none in rw is refl

    -- what a processor owes to a seat is a firing that the session is shown
    pub shown-due : (cpu seat : ℕ) (before : DueOffers) (due : DueOffer) → slice_get processors cpu ≡ Some before
        → due_of before seat ≡ Some due → IsDueToShown registry (world.places seat) due
    shown-due cpu seat before due is owes =
        let own : world.due cpu seat ≡ Some due = kept.due cpu seat ∙ ap (λ o. due_in o seat) is ∙ owes in
        subst (λ o. IfSome o (IsDueToShown registry (world.places seat))) own (sound.shown cpu seat)

    -- the session on the seat tells whether the firing is seen
    pub seen-offered : (cpu at seat : ℕ) (held : Place) (before : DueOffers) (due : DueOffer) → Found seats at seat held
        → slice_get processors cpu ≡ Some before → due_of before seat ≡ Some due → (seen : Bool)
        → (IsPlace registry (world.places seat) held → seen ≡ sees_on registry due (world.places seat))
        → seen_in registry world cpu seat ≡ cond seen (Some due.firing) None
    seen-offered cpu at seat held before due found is owes seen tells =
        let own : world.due cpu seat ≡ Some due = kept.due cpu seat ∙ ap (λ o. due_in o seat) is ∙ owes in
        let told = tells (held_at registry world seats publications processors kept at seat held found) in
        rw own (ap (λ b. cond b (Some due.firing) None) (sym told))

    due_taken : (cpu seat other at : ℕ) (before after : DueOffers) → slice_get processors cpu ≡ Some before
        → ((one : ℕ) → due_of after one ≡ cond (one == seat) None (due_of before one))
        → cond (other == cpu && at == seat) None (world.due other at)
        ≡ due_in (slice_get (set processors cpu after) other) at
    due_taken cpu seat other at before after is taken =
        let low : cpu < length processors = slice_get_within processors cpu before is in
        get_set_at (λ o. cond (other == cpu && at == seat) None (world.due other at) ≡ due_in o at)
        processors cpu other after (cpu == other) refl low
        (λ same.
        let one : cpu ≡ other = eqb-true cpu other same in
        let own : (other == cpu) ≡ true = eq-eqb other cpu (sym one) in
        let was : world.due other at ≡ due_of before at =
        kept.due other at ∙ ap (λ o. due_in o at) (ap (slice_get processors) (sym one) ∙ is) in
        rw (own, was) (sym (taken at)))
        (λ same.
        let own : (other == cpu) ≡ false = ne_eqb other cpu (λ e. eqb-false cpu other same (sym e)) in
        rw own (kept.due other at))

    pub kept-offering : (cpu at seat : ℕ) (held after : Place) (before left : DueOffers) (due : DueOffer)
        → Found seats at seat held → slice_get processors cpu ≡ Some before
        → due_of before seat ≡ Some due
        → ((one : ℕ) → due_of left one ≡ cond (one == seat) None (due_of before one))
        → left.context ≡ before.context
        → (IsPlace registry (world.places seat) held → IsPlace registry (offered due (world.places seat)) after)
        → WorldIsKept registry (offering world cpu seat) (set seats at after) publications (set processors cpu left)
    unfolding offering
    kept-offering cpu at seat held after before left due found is owes taken stays delivers =
        let own : world.due cpu seat ≡ Some due = kept.due cpu seat ∙ ap (λ o. due_in o seat) is ∙ owes in
        let h = delivers (held_at registry world seats publications processors kept at seat held found) in
        rw own (record {
          all = length-set seats at after ∙ kept.all;
          places = kept_seat registry world seats publications processors kept at seat held found world.places
              (offered due (world.places seat)) after kept.places h;
          published = kept.published;
          cpus = length-set processors cpu left ∙ kept.cpus;
          due = λ other one. due_taken cpu seat other one before left is taken;
          contexts = λ other. contexts_after cpu other left (slice_get_within processors cpu before is)
              (subst (λ m. IfSome m (IsContext registry)) (sym stays)
              (subst (λ o. IfSome o (λ (one : DueOffers). IfSome one.context (IsContext registry))) is (kept.contexts cpu)));
        })

    -- nothing was taken
    pub kept-offering-none : (cpu seat : ℕ) (value changed : DueOffers) → cpu < length processors
        → value ≡ get_or processors cpu value → changed ≡ value → due_of value seat ≡ None
        → WorldIsKept registry (offering world cpu seat) seats publications (set processors cpu changed)
    kept-offering-none cpu seat value changed low read same none =
        let found : slice_get processors cpu ≡ Some value =
        slice_get-get_or processors cpu value low ∙ ap Some (sym read) in
        let off : offering world cpu seat ≡ world = offering-none cpu seat (ap (λ o. due_in o seat) found ∙ none) in
        let all_same : set processors cpu changed ≡ processors =
        ap (set processors cpu) (same ∙ read) ∙ set-get_or processors cpu value in
        subst (λ w. WorldIsKept registry w seats publications (set processors cpu changed)) (sym off)
        (subst (λ ps. WorldIsKept registry world seats publications ps) (sym all_same) kept)

    pub kept-offering-past : (cpu seat : ℕ) → length processors ≤ cpu
        → WorldIsKept registry (offering world cpu seat) seats publications processors
    kept-offering-past cpu seat high =
        let off : offering world cpu seat ≡ world =
        offering-none cpu seat (ap (λ o. due_in o seat) (slice_get_past processors cpu high)) in
        subst (λ w. WorldIsKept registry w seats publications processors) (sym off) kept
