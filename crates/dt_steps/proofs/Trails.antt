-- A legal trail is what a session saw that was alone in the world: each item of the trail is a step more, or a few.
use Rattle.std.proofs.Common.{◌≡◌, ℕ, ◌==◌, ◌&&◌, ◌||◌, ◌++◌, Bool, true, false, not, cond, List, [], ◌∷◌, Option, Some, None, Result}
use Rattle.std.proofs.Common.{IsSomeAnd, is_none, fold, length, map, reverse, refl, sym, ap, ◌∙◌, subst, ⊎_elim}
use Rattle.std.proofs.lemmas.Bool.{eq-eqb, ne_eqb, lt-ltb, and_from, or_left, or_right, both_ways}
use Rattle.std.proofs.lemmas.List.Sums.{fold-append}
use Rattle.std.specs.List.{list_all, list_any, range_with_len}
use Rattle.std.specs.Option.{option_map, option_and_then}
use Rattle.dt_chain.specs.Limits.{seat_count}
use Rattle.dt_chain.specs.Look.{NamesFiring}
use Rattle.dt_chain.specs.Tests.{mask_of}
use Rattle.dt_chain.specs.Writes.{published_on}
use Rattle.dt_chain.specs.laws.Tests.{mask_is_look}
use Rattle.dt_cred.specs.Rights.{HasDtrace, has_dtrace}
use Rattle.dt_cred.specs.declared.account.Account.{Account}
use Rattle.dt_cred.specs.declared.account.Privs.{Privs}
use Rattle.dt_cred.specs.declared.firing.Firing.{Firing}
use Rattle.dt_life.specs.Answer.{Answer}
use Rattle.dt_life.specs.Ask.{Ask}
use Rattle.dt_life.specs.Life.{Item, phase}
use Rattle.dt_life.specs.Reply.{Replies}
use Rattle.dt_life.specs.Sees.{Sees}
use Rattle.dt_life.specs.declared.refusal.Refusal.{Refusal}
use Rattle.dt_life.specs.laws.Seeing.{seen_to, active_to}
use Rattle.dt_machine.specs.Registry.{Registry, Contents, account_of}
use Rattle.dt_proto.specs.Alone.{Reached, own_line, firing_made, Alone}
use Rattle.dt_proto.specs.Legal.{IsLegal, Agrees, life_of_trail}
use Rattle.dt_proto.specs.Lines.{LineForm, line_form, long_line}
use Rattle.dt_proto.specs.Session.{session_account}
use Rattle.dt_proto.specs.Told.{view_told, view_by}
use Rattle.dt_proto.specs.Reply.{reply_text}
use Rattle.dt_proto.specs.Trail.{WrittenItem, line_asked, long_asked, fired_at, replies_of}
use Rattle.dt_proto.specs.Views.{life_of, seen_view}
use Rattle.dt_proto.specs.laws.Legal.{life_told, agreement}
use Rattle.dt_proto.specs.laws.Views.{alone_seen, one_alone}
use Rattle.dt_steps.proofs.Naming.{named_by_own}
use Rattle.dt_steps.proofs.Questions.{told_alone}
use Rattle.dt_steps.proofs.Soundness.{sound-after}
use Rattle.dt_steps.specs.Ran.{SeatReply, AreReplies, told_to, IsAnsweredAlone}
use Rattle.dt_steps.specs.Sound.{IsSoundWorld, publication_of}
use Rattle.dt_steps.specs.Steps.{StepForm, opens, asks, publishes, finishes, looks, offers, after_step, world_after, where_some}
use Rattle.dt_steps.specs.Steps.{with_session, answering, opening, asking, publishing_of, publishing, finishing, is_done, passed}
use Rattle.dt_steps.specs.Steps.{looking_at, looking, offered, offering_of, offering}
use Rattle.dt_steps.specs.Trails.{is_closed, EndsAtClose, HasSeen}
use Rattle.dt_steps.specs.World.{World, Session, Place, DueOffer, new_world, life_in, is_closing, new_session}
use Rattle.dt_steps.specs.World.{reached, answered, waiting, may_ask, accepts_go}

-- The first session on seat 0 is this one. On no other seat anything is published, and no offer is due.
record IsAlone (world : World) (session : Session) : Type 0 where
  present : (world.places 0).present ≡ Some session
  first : (world.places 0).earlier ≡ []
  others : (seat : ℕ) → (seat ≡ 0 → ⊥) → published_on world.writes seat ≡ None
  idle : (cpu seat : ℕ) → world.due cpu seat ≡ None

module _ (registry : Registry) where
  -- the session is opened
  opening_is : (name : List ℕ) (account : Account) → session_account registry name ≡ Some account
      → opening registry new_world 0 name ≡ with_session new_world 0 (new_session account)
  unfolding opening
  opening_is name account is =
      ap (λ (found : Option Account). where_some found new_world (λ one. with_session new_world 0 (new_session one))) is

  alone-opened : (account : Account) → IsAlone (with_session new_world 0 (new_session account)) (new_session account)
  alone-opened account = record {
    present = refl;
    first = refl;
    others = λ seat other. refl;
    idle = λ cpu seat. refl;
  }

  module _ (world : World) (session : Session) (h : IsAlone world session) where
    -- a line is asked
    asking_is : (line : LineForm) → may_ask registry session ≡ true
        → asking registry world 0 line ≡ cond (accepts_go registry session line)
        (with_session world 0 (waiting session line false)) (answering world 0 session line)
    unfolding asking
    asking_is line may =
        ap (λ (found : Option Session). where_some found world (λ one. cond (may_ask registry one)
        (cond (accepts_go registry one line) (with_session world 0 (waiting one line false)) (answering world 0 one line))
        world)) h.present
        ∙ ap (λ b. cond b (cond (accepts_go registry session line) (with_session world 0 (waiting session line false))
        (answering world 0 session line)) world) may

    -- it is answered
    alone-answering : (line : LineForm) → IsAlone (answering world 0 session line) (answered session line)
    alone-answering line = record { present = refl; first = h.first; others = h.others; idle = h.idle }

    -- or it is a `go` that is accepted, and then published and finished
    abbrev asked_go : LineForm → World
    asked_go line = with_session world 0 (waiting session line false)

    abbrev published_go : LineForm → World
    published_go line = publishing_of registry (asked_go line) 0 (waiting session line false)
        (record { line = line; published = false })

    abbrev finished_go : LineForm → World
    finished_go line = answering (published_go line) 0 (waiting session line true) line

    publishing_is : (line : LineForm) → publishing registry (asked_go line) 0 ≡ published_go line
    unfolding publishing
    publishing_is line = refl

    finishing_is : (line : LineForm) → finishing (published_go line) 0 ≡ finished_go line
    unfolding finishing
    finishing_is line = refl

    alone-finished : (line : LineForm) → IsAlone (finished_go line) (answered session line)
    alone-finished line = record {
      present = refl;
      first = h.first;
      others = λ seat other. rw (ne_eqb 0 seat (λ same. other (sym same))) (h.others seat other);
      idle = h.idle;
    }

    asked_steps : (line : LineForm) → may_ask registry session ≡ true → (begins : Bool)
        → accepts_go registry session line ≡ begins
        → (more : List StepForm) × IsAlone (fold (after_step registry) world more) (answered session line)
    asked_steps line may false is = (
      asks 0 line ∷ [],
      subst (λ (w : World). IsAlone w (answered session line))
          (sym (asking_is line may ∙ ap (λ b. cond b (asked_go line) (answering world 0 session line)) is))
          (alone-answering line),
    )
    asked_steps line may true is =
        let asked = asking_is line may ∙ ap (λ b. cond b (asked_go line) (answering world 0 session line)) is in (
          asks 0 line ∷ publishes 0 ∷ finishes 0 ∷ [],
          subst (λ (w : World). IsAlone w (answered session line))
              (sym (ap (λ (w : World). finishing (publishing registry w 0) 0) asked
              ∙ ap (λ (w : World). finishing w 0) (publishing_is line) ∙ finishing_is line))
              (alone-finished line),
        )

    -- a firing that the session sees is looked for and offered
    module _ (sound : IsSoundWorld registry world) (firing : Firing)
        (sees : Sees session.account registry (life_in registry session) firing) where
      abbrev mask : ℕ → Option ℕ
      mask = mask_of registry world.writes firing

      abbrev looked : World
      looked = looking_at world firing.cpu firing mask

      abbrev due : DueOffer
      due = record { life = 0; firing = firing }

      published_own : published_on world.writes 0
          ≡ Some (publication_of registry session.account (life_in registry session) 0)
      published_own =
          let at = rw h.present at (sound.seats 0) in
          let own = at.1 in
          own.traces (active_to (phase session.account registry (life_in registry session)) sees.active)
          ∙ ap (λ (before : List Session).
          Some (publication_of registry session.account (life_in registry session) (length before))) h.first

      names_own : mask 0 ≡ Some 0
      names_own =
          ((mask_is_look registry world.writes firing).exactly 0 0).1
          (subst (λ o. IsSomeAnd o (λ one. (one.life ≡ 0) × NamesFiring registry one firing)) (sym published_own)
          (refl, named_by_own session.account registry (life_in registry session) 0 firing sees))

      names_no_other : (seat : ℕ) → (seat ≡ 0 → ⊥) → mask seat ≡ None
      unfolding mask_of
      names_no_other seat other = rw (h.others seat other) refl

      none_left : (seats : List ℕ) → list_all (λ seat. is_none (world.due firing.cpu seat)) seats ≡ true
      none_left [] = refl
      none_left (seat ∷ seats) = and_from _ _ (ap is_none (h.idle firing.cpu seat)) (none_left seats)

      nothing_due : is_done (world.due firing.cpu) ≡ true
      unfolding is_done
      nothing_due = none_left (range_with_len 0 seat_count)

      looking_is : looking registry world firing.cpu firing ≡ looked
      unfolding looking
      looking_is =
          ap (λ b. cond b looked world)
          (and_from _ _ (lt-ltb firing.cpu registry.cpus sees.belongs.cpu)
          (and_from _ _ (eq-eqb firing.cpu firing.cpu refl) nothing_due))

      due_own : looked.due firing.cpu 0 ≡ Some due
      due_own =
          ap (λ b. cond b (option_map (λ life. record { life = life; firing = firing }) (mask 0)) (world.due firing.cpu 0))
          (eq-eqb firing.cpu firing.cpu refl)
          ∙ ap (λ (named : Option ℕ). option_map (λ life. record { life = life; firing = firing }) named) names_own

      offering_is : offering looked firing.cpu 0 ≡ offering_of looked firing.cpu 0 due
      unfolding offering
      offering_is =
          ap (λ (found : Option DueOffer). where_some found looked (λ one. offering_of looked firing.cpu 0 one)) due_own

      -- the look passes the session, and the offer reaches it
      abbrev with_firing : Place → Session → Place
      with_firing place one = record place { present = Some (reached one (firing_made firing)) }

      passed_is : passed firing (Some 0) (world.places 0) ≡ world.places 0
      passed_is =
          ap (λ (found : Option Session). where_some found (world.places 0) (λ one.
          cond (0 == length (world.places 0).earlier) (world.places 0) (with_firing (world.places 0) one))) h.present
          ∙ ap (λ (before : List Session). cond (0 == length before) (world.places 0) (with_firing (world.places 0) session))
          h.first

      offered_is : offered due (world.places 0) ≡ with_firing (world.places 0) session
      offered_is =
          ap (λ (found : Option Session). where_some found (world.places 0) (λ one.
          cond (0 == length (world.places 0).earlier) (with_firing (world.places 0) one) (world.places 0))) h.present
          ∙ ap (λ (before : List Session). cond (0 == length before) (with_firing (world.places 0) session) (world.places 0))
          h.first

      reached_is : offered due (looked.places 0) ≡ with_firing (world.places 0) session
      reached_is =
          ap (λ (place : Place). offered due place)
          (ap (λ (named : Option ℕ). passed firing named (world.places 0)) names_own ∙ passed_is)
          ∙ offered_is

      no_offer_left : (cpu seat : ℕ) (same here : Bool) → (seat == 0) ≡ here
          → cond (same && here) None
          (cond same (option_map (λ life. record { life = life; firing = firing }) (mask seat)) (world.due cpu seat))
          ≡ None
      no_offer_left cpu seat true true is = refl
      no_offer_left cpu seat true false is =
          ap (λ (named : Option ℕ). option_map (λ life. record { life = life; firing = firing }) named)
          (names_no_other seat (λ same. both_ways (seat == 0) is (eq-eqb seat 0 same)))
      no_offer_left cpu seat false here is = h.idle cpu seat

      alone-offered : IsAlone (offering_of looked firing.cpu 0 due) (reached session (firing_made firing))
      alone-offered = record {
        present = ap (λ (place : Place). place.present) reached_is;
        first = ap (λ (place : Place). place.earlier) reached_is ∙ h.first;
        others = h.others;
        idle = λ cpu seat. no_offer_left cpu seat (cpu == firing.cpu) (seat == 0) refl;
      }

      seen_steps : (more : List StepForm)
          × IsAlone (fold (after_step registry) world more) (reached session (firing_made firing))
      seen_steps = (
        looks firing.cpu firing ∷ offers firing.cpu 0 ∷ [],
        subst (λ (w : World). IsAlone w (reached session (firing_made firing)))
            (sym (ap (λ (w : World). offering w firing.cpu 0) looking_is ∙ offering_is)) alone-offered,
      )

module _ (account : Account) (contents : Contents) where
  abbrev told_session : List WrittenItem → Session
  told_session past = record { account = account; view = view_told contents past; go = None }

  -- After these steps the session to which just this came is alone.
  record IsReached (past : List WrittenItem) : Type 0 where
    steps : List StepForm
    alone : IsAlone (world_after contents.registry steps) (told_session past)

  go_on : (past : List WrittenItem) (item : WrittenItem) (before : IsReached past)
      → (more : List StepForm) × IsAlone
      (fold (after_step contents.registry) (world_after contents.registry before.steps) more) (told_session (item ∷ past))
      → IsReached (item ∷ past)
  go_on past item before h = record {
    steps = before.steps ++ h.0;
    alone = subst (λ (w : World). IsAlone w (told_session (item ∷ past)))
        (sym (fold-append (after_step contents.registry) new_world before.steps h.0)) h.1;
  }

  -- a line may be asked of it, where none was a `close`
  may_be_asked : (past : List WrittenItem) → IsLegal account contents past → is_closed account contents past ≡ false
      → may_ask contents.registry (told_session past) ≡ true
  unfolding may_ask
  may_be_asked past legal open_still =
      let quiet : list_any is_closing (life_of account contents.registry (view_told contents past)) ≡ false =
      ap (λ (life : List Item). list_any is_closing life) (sym (life_told account contents past legal)) ∙ open_still in
      ap not quiet

  line_reached : (past : List WrittenItem) (line : LineForm) → IsLegal account contents past
      → is_closed account contents past ≡ false → (before : IsReached past)
      → (more : List StepForm) × IsAlone
      (fold (after_step contents.registry) (world_after contents.registry before.steps) more)
      (answered (told_session past) line)
  line_reached past line legal open_still before =
      asked_steps contents.registry (world_after contents.registry before.steps) (told_session past) before.alone line
      (may_be_asked past legal open_still) (accepts_go contents.registry (told_session past) line) refl

  -- a firing that the trail's life sees
  firing_reached : (past : List WrittenItem) (firing : Firing) → IsLegal account contents past
      → Sees account contents.registry (life_of_trail account contents past) firing → (before : IsReached past)
      → (more : List StepForm) × IsAlone
      (fold (after_step contents.registry) (world_after contents.registry before.steps) more)
      (reached (told_session past) (firing_made firing))
  firing_reached past firing legal sees before =
      seen_steps contents.registry (world_after contents.registry before.steps) (told_session past) before.alone
      (sound-after contents.registry before.steps) firing
      (subst (λ (life : List Item). Sees account contents.registry life firing) (life_told account contents past legal) sees)

  all_reached : (name : List ℕ) → session_account contents.registry name ≡ Some account
      → (past : List WrittenItem) → IsLegal account contents past → EndsAtClose account contents past → IsReached past
  all_reached name known [] legal ends = record {
    steps = opens 0 name ∷ [];
    alone = subst (λ (w : World). IsAlone w (new_session account))
        (sym (opening_is contents.registry name account known)) (alone-opened contents.registry account);
  }
  all_reached name known (line_asked line reply ∷ past) legal ends =
      let before = all_reached name known past legal.0 ends.0 in
      go_on past (line_asked line reply) before (line_reached past (line_form line) legal.0 ends.1 before)
  all_reached name known (long_asked reply ∷ past) legal ends =
      let before = all_reached name known past legal.0 ends.0 in
      go_on past (long_asked reply) before (line_reached past long_line legal.0 ends.1 before)
  all_reached name known (fired_at cpu place ∷ past) legal ends =
      let before = all_reached name known past legal.0 ends.0 in
      let firing = legal.1.1 in
      go_on past (fired_at cpu place) before
      (rw firing.1 (firing_reached past firing.0 legal.0 firing.2 before))

  -- the seen view of what a legal trail tells is just that
  all_seen : (past : List WrittenItem) → IsLegal account contents past
      → seen_view account contents.registry (view_told contents past) ≡ view_told contents past
  all_seen [] legal = refl
  all_seen (line_asked line reply ∷ past) legal =
      ap (λ (view : List Reached). own_line (line_form line) ∷ view) (all_seen past legal.0)
  all_seen (long_asked reply ∷ past) legal =
      ap (λ (view : List Reached). own_line long_line ∷ view) (all_seen past legal.0)
  all_seen (fired_at cpu place ∷ past) legal =
      let firing = legal.1.1 in
      let sees = subst (λ (life : List Item). Sees account contents.registry life firing.0)
      (life_told account contents past legal.0) firing.2 in
      let seen = seen_to account contents.registry (life_of account contents.registry (view_told contents past)) firing.0
      sees in
      rw (firing.1, seen, all_seen past legal.0) refl

-- whoever has a dtrace privilege may open a session
has_right : (privs : Privs) → HasDtrace privs → has_dtrace privs ≡ true
has_right privs h =
    ⊎_elim (λ user. or_left privs.dtrace_user (privs.dtrace_proc || privs.dtrace_kernel) user)
    (λ rest. or_right privs.dtrace_user (privs.dtrace_proc || privs.dtrace_kernel)
    (⊎_elim (λ proc. or_left privs.dtrace_proc privs.dtrace_kernel proc)
    (λ kernel. or_right privs.dtrace_proc privs.dtrace_kernel kernel) rest)) h

may_open : (registry : Registry) (name : List ℕ) (account : Account) → account_of registry name ≡ Some account
    → HasDtrace account.privs → session_account registry name ≡ Some account
may_open registry name account known right =
    ap (λ (found : Option Account). option_and_then (λ one. cond (has_dtrace one.privs) (Some one) None) found) known
    ∙ ap (λ b. cond b (Some account) None) (has_right account.privs right)

-- A legal trail is the seen view of a session.
pub trail_is_view : (contents : Contents) (name : List ℕ) (account : Account) (past : List WrittenItem)
    → account_of contents.registry name ≡ Some account → HasDtrace account.privs
    → IsLegal account contents past → EndsAtClose account contents past
    → (steps : List StepForm) × (seat : ℕ) × (n : ℕ)
    × HasSeen contents.registry steps seat n account (view_told contents past)
trail_is_view contents name account past known right legal ends =
    let there = all_reached account contents name (may_open contents.registry name account known right) past legal ends in
    let alone = there.alone in (
      there.steps,
      0,
      0,
      record {
        session = told_session account contents past;
        found = rw (alone.present, alone.first) refl;
        owner = refl;
        seen = all_seen account contents past legal;
      },
    )

-- What a session is told is what its seen view is answered alone.
pub told_as_seen : (registry : Registry) (steps : List StepForm) (seat n : ℕ) (account : Account) (view : List Reached)
    (told : List SeatReply)
    → HasSeen registry steps seat n account view → AreReplies registry (world_after registry steps).questions told
    → (answers : List Answer) × Alone account registry view answers
    × (told_to seat n (world_after registry steps).questions told ≡ map reply_text answers)
told_as_seen registry steps seat n account view told h replies =
    let texts = told_to seat n (world_after registry steps).questions told in
    let own : IsAnsweredAlone registry (Some h.session) texts =
    subst (λ (found : Option Session). IsAnsweredAlone registry found texts) h.found
    (told_alone registry steps told replies seat n) in
    let alone : Alone account registry h.session.view own.0 =
    subst (λ (one : Account). Alone one registry h.session.view own.0) h.owner own.1 in
    let seen : Alone account registry view own.0 =
    subst (λ (seen : List Reached). Alone account registry seen own.0) h.seen
    (alone_seen account registry h.session.view own.0 alone) in
    (own.0, seen, own.2)

-- So it is what a trail tells of it, where that is right.
pub told_as_trailed : (one_reply : (account : Account) (registry : Registry) (life : List Item) (line : Result Ask Refusal)
    (a b : Answer) → Replies account registry life line a → Replies account registry life line b → a ≡ b)
    (contents : Contents) (steps : List StepForm) (seat n : ℕ) (account : Account) (items : List WrittenItem)
    (told : List SeatReply)
    → HasSeen contents.registry steps seat n account (view_by contents items)
    → Agrees account contents (reverse items)
    → AreReplies contents.registry (world_after contents.registry steps).questions told
    → told_to seat n (world_after contents.registry steps).questions told ≡ replies_of items
told_as_trailed one_reply contents steps seat n account items told h agrees replies =
    let view = view_by contents items in
    let own = told_as_seen contents.registry steps seat n account view told h replies in
    let due = ((agreement account contents items).0 agrees).1 in
    let same : own.0 ≡ due.0 = one_alone one_reply account contents.registry view own.0 due.0 own.1 due.1 in
    own.2 ∙ ap (map reply_text) same ∙ sym due.2
