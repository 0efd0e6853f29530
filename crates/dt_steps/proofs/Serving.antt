-- A session after each of its calls.
use Rattle.std.proofs.Common.{◌≡◌, ℕ, ◌&&◌, ◌||◌, Bool, true, false, cond, not, List, ◌∷◌, Option, Some, None, is_some}
use Rattle.std.proofs.Common.{is_none, Result, Ok, IsTrue, ◌↔◌, refl, sym, ap, ◌∙◌, subst}
use Rattle.std.proofs.lemmas.Bool.{both_ways, and_parts, not-true, false_from_ne_true}
use Rattle.std.specs.List.{list_any}
use Rattle.std.specs.Option.{option_map_or}
use Rattle.dt_cred.specs.declared.account.Account.{Account}
use Rattle.dt_machine.specs.Registry.{Registry}
use Rattle.dt_cred.specs.declared.firing.Firing.{Firing}
use Rattle.dt_life.specs.Answer.{Answer}
use Rattle.dt_life.specs.Ask as ask
use Rattle.dt_life.specs.Ask.{Ask}
use Rattle.dt_life.specs.Acceptance.{IsAcceptedGo, IsAcceptedClose, after_line, is_close}
use Rattle.dt_consumer.specs.Draft.{IsDraftOf}
use Rattle.dt_life.specs.Life.{Item, asked, fired, is_over, is_active}
use Rattle.dt_life.specs.Reply.{Replies}
use Rattle.dt_life.specs.Sees.{Sees}
use Rattle.dt_consumer.specs.StandsFor.{StandsFor}
use Rattle.dt_consumer.specs.declared.consumer.Consumer.{Consumer}
use Rattle.dt_life.specs.declared.phase.Phase.{Phase}
use Rattle.dt_life.specs.declared.phase.Phase.TheVariants.{Inactive, Active}
use Rattle.dt_life.specs.declared.refusal.Refusal.{Refusal}
use Rattle.dt_proto.specs.Asked.{form_asked}
use Rattle.dt_proto.specs.Line.{ask_in}
use Rattle.dt_proto.specs.Lines.{LineForm}
use Rattle.dt_proto.specs.Reply.{reply_text}
use Rattle.dt_steps.specs.Ready.{GoIsReady}
use Rattle.dt_steps.specs.Stands.{IsPending, IsPendingGo, IsSessionOf, IsSession, IsAsked, IsFinishing}
use Rattle.dt_life.specs.Tests.{is_seen}
use Rattle.dt_steps.specs.World as world
use Rattle.dt_steps.specs.World.{life_in, is_closing, is_tracing, may_ask, accepts_go, may_withdraw}
use Rattle.dt_steps.specs.declared.session.Session.{Session}
use Rattle.dt_steps.specs.declared.session.Pending.{Pending}
use Rattle.dt_steps.proofs.Beginning.{accepts_from, accepts_to}
use Rattle.dt_proto.specs.laws.Views.{reply_to}
use Rattle.dt_life.specs.laws.Seeing.{seen_to, unseen_to}

module _ (registry : Registry) (account : Account) (life : List Item) where
  -- where one has a pending `go`, so has the other
  pending_known : (pending : Option world.Pending) (held : Option Pending) → IsPendingGo registry account life pending held
      → is_some held ≡ is_some pending
  pending_known None None h = refl
  pending_known None (Some held) h = absurd h
  pending_known (Some pending) None h = absurd h
  pending_known (Some pending) (Some held) h = refl

  pending_none : (held : Option Pending) → IsPendingGo registry account life None held → held ≡ None
  pending_none None h = refl
  pending_none (Some held) h = absurd h

  -- the pending `go` of which this is kept
  record Waits (pending : Option world.Pending) (held : Pending) : Type 0 where
    pub own : world.Pending
    pub is : pending ≡ Some own
    pub kept : IsPending registry account life own held

  waits_for : (pending : Option world.Pending) (held : Pending) → IsPendingGo registry account life pending (Some held)
      → Waits pending held
  waits_for None held h = absurd h
  waits_for (Some own) held h = record { own = own; is = refl; kept = h }

none_without : {A B : Type 0} (a : Option A) (b : Option B) → is_some b ≡ is_some a → a ≡ None → b ≡ None
none_without a None h is = refl
none_without a (Some b) h is = let bad : true ≡ false = h ∙ ap is_some is in cc

none_pending : (pending : Option world.Pending) → is_none pending ≡ true → pending ≡ None
none_pending None h = refl
none_pending (Some own) h = cc

no_line_kept : (registry : Registry) (account : Account) (life later : List Item) (held : Option Pending)
    → IsPendingGo registry account life None held → IsPendingGo registry account later None held
no_line_kept registry account life later None h = h
no_line_kept registry account life later (Some held) h = h

module _ (registry : Registry) (session : world.Session) (served : Session) (h : IsSession registry session served) where
  known : is_some served.go ≡ is_some session.go
  known = pending_known registry session.account (life_in registry session) session.go served.go h.pending

  pub asks_free : is_some served.go ≡ false → not served.is_closed ≡ may_ask registry session
  unfolding may_ask
  asks_free none =
      ap not h.closed
      ∙ ap (λ b. not b && not (list_any is_closing (life_in registry session))) (sym none ∙ known)

  pub asks_not : is_some served.go ≡ true → false ≡ may_ask registry session
  unfolding may_ask
  asks_not some = ap (λ b. not b && not (list_any is_closing (life_in registry session))) (sym some ∙ known)

  pub withdraws_free : (tracing : Bool) → is_some served.go ≡ false → tracing ≡ is_tracing registry session
      → not tracing ≡ may_withdraw registry session
  unfolding may_withdraw
  withdraws_free tracing none is =
      ap not is ∙ ap (λ b. not b && not (is_tracing registry session)) (sym none ∙ known)

  pub withdraws_not : is_some served.go ≡ true → false ≡ may_withdraw registry session
  unfolding may_withdraw
  withdraws_not some = ap (λ b. not b && not (is_tracing registry session)) (sym some ∙ known)

pub not_active : (phase : Phase) → (phase ≡ Active → ⊥) → is_active phase ≡ false
not_active Active h = absurd (h refl)
not_active _ h = refl

close_from : (line : Result Ask Refusal) → is_close line ≡ true → line ≡ Ok ask.close
close_from (Ok ask.close) h = refl
close_from _ h = cc

pub same_test : (a b : Bool) → (a ≡ true → b ≡ true) → (b ≡ true → a ≡ true) → a ≡ b
same_test true b h k = sym (h refl)
same_test false true h k = k refl
same_test false false h k = refl

or_none : (a b : Bool) → b ≡ false → (a || b) ≡ a
or_none true b h = refl
or_none false b h = h

module _ (registry : Registry) (account : Account) (life : List Item) where
  -- a line closes the session where it is an accepted `close`
  closed_at : (line : Result Ask Refusal) (over closes : Bool) → is_over life ≡ over
      → list_any is_closing life ≡ false → IsTrue closes ↔ IsAcceptedClose account registry life line
      → closes ≡ list_any is_closing (cond over life (asked line ∷ life))
  closed_at line true closes is open_ h =
      false_from_ne_true closes (λ yes. both_ways (is_over life) ((h.0 yes).0) is) ∙ sym open_
  closed_at line false closes is open_ h =
      same_test closes (is_close line) (λ yes. ap is_close ((h.0 yes).1)) (λ yes. h.1 (is, close_from line yes))
      ∙ sym (or_none (is_close line) (list_any is_closing life) open_)

  go_open_at : (line : Result Ask Refusal) (over : Bool) → line ≡ Ok ask.go
      → list_any is_closing life ≡ list_any is_closing (cond over life (asked line ∷ life))
  go_open_at line true is = refl
  go_open_at line false is = ap (λ own. is_close own || list_any is_closing life) (sym is)

module _ (registry : Registry) (session : world.Session) (line : LineForm) (served : Session)
    (h : IsSession registry session served) where
  -- an accepted `go` is kept
  pub asked_go : (held : Pending) (answer : Answer) → form_asked held.line ≡ line
      → IsDraftOf session.account registry (life_in registry session) (ask_in line) held.draft
      → IsAcceptedGo session.account registry (life_in registry session) (ask_in line)
      → Replies session.account registry (life_in registry session) (ask_in line) answer
      → held.text.items ≡ reply_text answer → held.is_published ≡ false
      → (ready : GoIsReady served.consumer (Some held))
      → IsAsked registry session line None (record {
        account = served.account;
        consumer = served.consumer;
        go = Some held;
        is_closed = served.is_closed;
        ready = ready;
      })
  asked_go held answer same drafted is replies text not_yet ready = (
    accepts_to registry session line is,
    record {
      owner = h.owner;
      stands = h.stands;
      closed = h.closed;
      pending = record {
        line = same;
        published = not_yet;
        accepted = is;
        drafted = drafted;
        answer = answer;
        replies = replies;
        text = text;
      };
    },
  )

  may_ask_parts : may_ask registry session ≡ true
      → (session.go ≡ None) × (list_any is_closing (life_in registry session) ≡ false)
  unfolding may_ask
  may_ask_parts may =
      let parts = and_parts _ _ may in
      (none_pending session.go parts.0, not-true (list_any is_closing (life_in registry session)) parts.1)

  -- any other line is answered
  pub asked_other : (consumer : Consumer) (closes : Bool) (answer : Answer) (text : List ℕ)
      → may_ask registry session ≡ true
      → (IsAcceptedGo session.account registry (life_in registry session) (ask_in line) → ⊥)
      → IsTrue closes ↔ IsAcceptedClose session.account registry (life_in registry session) (ask_in line)
      → StandsFor session.account registry consumer (after_line (life_in registry session) (ask_in line))
      → Replies session.account registry (life_in registry session) (ask_in line) answer → text ≡ reply_text answer
      → (ready : GoIsReady consumer served.go)
      → IsAsked registry session line (Some text) (record {
        account = served.account;
        consumer = consumer;
        go = served.go;
        is_closed = closes;
        ready = ready;
      })
  asked_other consumer closes answer text may none closing stands replies is ready =
      let parts = may_ask_parts may in
      let idle : IsPendingGo registry session.account (life_in registry session) None served.go =
      rw parts.0 at h.pending in (
        false_from_ne_true (accepts_go registry session line) (λ go. none (accepts_from registry session line go)),
        record {
          owner = h.owner;
          stands = stands;
          closed = closed_at registry session.account (life_in registry session) (ask_in line)
              (is_over (life_in registry session)) closes refl parts.1 closing;
          pending = no_line_kept registry session.account (life_in registry session)
              (after_line (life_in registry session) (ask_in line)) served.go idle;
        },
        (answer, reply_to session.account registry session.view line answer replies, is),
      )

-- what is pending of a session, as it is kept
pub record Finishes (registry : Registry) (session : world.Session) (held : Pending) : Type 0 where
  pub own : world.Pending
  pub is : session.go ≡ Some own
  pub line : form_asked held.line ≡ own.line
  pub published : held.is_published ≡ own.published
  pub accepted : IsAcceptedGo session.account registry (life_in registry session) (ask_in own.line)
  pub drafted : IsDraftOf session.account registry (life_in registry session) (ask_in own.line) held.draft
  pub answer : Answer
  pub replies : Replies session.account registry (life_in registry session) (ask_in own.line) answer
  pub text : held.text.items ≡ reply_text answer

not_published_at : (registry : Registry) (account : Account) (life : List Item) (pending : Option world.Pending)
    (held : Option Pending) → IsPendingGo registry account life pending held
    → option_map_or (λ (one : Pending). one.is_published) held false ≡ false
    → option_map_or (λ (own : world.Pending). own.published) pending false ≡ false
not_published_at registry account life None None h not_yet = refl
not_published_at registry account life None (Some held) h not_yet = refl
not_published_at registry account life (Some own) None h not_yet = absurd h
not_published_at registry account life (Some own) (Some held) h not_yet = sym h.published ∙ not_yet

module _ (registry : Registry) (session : world.Session) (served : Session) (h : IsSession registry session served) where
  pub finishes : (held : Pending) → served.go ≡ Some held → Finishes registry session held
  finishes held is =
      let w = waits_for registry session.account (life_in registry session) session.go held (rw is at h.pending) in
      record {
        own = w.own;
        is = w.is;
        line = w.kept.line;
        published = w.kept.published;
        accepted = w.kept.accepted;
        drafted = w.kept.drafted;
        answer = w.kept.answer;
        replies = w.kept.replies;
        text = w.kept.text;
      }

  -- the line that is kept is that of the pending `go`
  pub kept_line : (held : Pending) → served.go ≡ Some held → (pending : world.Pending) → session.go ≡ Some pending
      → form_asked held.line ≡ pending.line
  kept_line held is pending waits =
      let f = finishes held is in
      let own : Some f.own ≡ Some pending = sym f.is ∙ waits in
      let same : f.own ≡ pending = cc in
      f.line ∙ ap (λ (p : world.Pending). p.line) same

  -- nothing is pending, or it isn't published
  pub not_finishing : option_map_or (λ (held : Pending). held.is_published) served.go false ≡ false
      → IsFinishing registry session None served
  not_finishing unpublished = (
    not_published_at registry session.account (life_in registry session) session.go served.go h.pending unpublished,
    h,
  )

  -- it takes effect, and is answered
  pub finishing : (held : Pending) (consumer : Consumer) (kept : Option Pending)
      → served.go ≡ Some held → kept ≡ None
      → held.is_published ≡ true
      → ((line : LineForm) → IsDraftOf session.account registry (life_in registry session) (ask_in line) held.draft
      → StandsFor session.account registry consumer (after_line (life_in registry session) (ask_in line)))
      → (ready : GoIsReady consumer kept)
      → IsFinishing registry session (Some held.text.items) (record {
        account = served.account;
        consumer = consumer;
        go = kept;
        is_closed = served.is_closed;
        ready = ready;
      })
  finishing held consumer kept is emptied published does ready =
      let w = finishes held is in (
        w.own,
        w.is,
        sym w.published ∙ published,
        (w.answer, reply_to session.account registry session.view w.own.line w.answer w.replies, w.text),
        record {
          owner = h.owner;
          stands = does w.own.line w.drafted;
          closed = h.closed ∙ go_open_at registry session.account (life_in registry session) (ask_in w.own.line)
              (is_over (life_in registry session)) w.accepted.3;
          pending = rw emptied tt;
        },
      )

-- what an offer does to a consumer
pub record IsOffered (account : Account) (registry : Registry) (consumer after : Consumer) (firing : Firing)
    (seen : Bool) (life : List Item) : Type 0 where
  pub sees : IsTrue seen ↔ Sees account registry life firing
  pub stands : IsTrue seen → StandsFor account registry after (fired firing ∷ life)
  pub unseen : seen ≡ false → after ≡ consumer

module _ (registry : Registry) (account : Account) (life : List Item) (firing : Firing) where
  -- nothing is pending of a session that sees a firing
  kept_seen : (pending : Option world.Pending) (held : Option Pending) → Sees account registry life firing
      → IsPendingGo registry account life pending held → IsPendingGo registry account (fired firing ∷ life) pending held
  kept_seen None None sees h = h
  kept_seen None (Some held) sees h = h
  kept_seen (Some own) None sees h = h
  kept_seen (Some own) (Some held) sees h =
      let both : Active ≡ Inactive = sym sees.active ∙ h.accepted.1 in cc

  pub served_offered : (pending : Option world.Pending) (served : Session) (consumer : Consumer) (seen : Bool)
      → (ready : GoIsReady consumer served.go) → IsSessionOf registry account life pending served
      → IsOffered account registry served.consumer consumer firing seen life
      → IsSessionOf registry account (cond (is_seen account registry life firing) (fired firing ∷ life) life) pending
      (record {
        account = served.account;
        consumer = consumer;
        go = served.go;
        is_closed = served.is_closed;
        ready = ready;
      })
  served_offered pending served consumer true ready h offered =
      let sees = offered.sees.0 refl in
      rw (seen_to account registry life firing sees) (record {
        owner = h.owner;
        stands = offered.stands refl;
        closed = h.closed;
        pending = kept_seen pending served.go sees h.pending;
      })
  served_offered pending served consumer false ready h offered =
      let unseen : Sees account registry life firing → ⊥ = λ sees. let bad = offered.sees.1 sees in cc in
      rw (unseen_to account registry life firing unseen) (record {
        owner = h.owner;
        stands = subst (λ c. StandsFor account registry c life) (sym (offered.unseen refl)) h.stands;
        closed = h.closed;
        pending = h.pending;
      })
