-- Which steps answer nothing: the questions stay as they were.
use Rattle.std.proofs.Common.{◌≡◌, ℕ, ◌&&◌, ◌==◌, Bool, true, false, cond, List, ◌∷◌, Option, Some, None, is_none}
use Rattle.std.proofs.Common.{nat_lt, refl, subst}
use Rattle.std.proofs.lemmas.Bool.{cond_both, eqb-true}
use Rattle.std.specs.Option.{option_map_or}
use Rattle.dt_machine.specs.Registry.{Registry, Contents}
use Rattle.dt_chain.specs.declared.seat.TheConstants.{SEATS}
use Rattle.dt_proto.specs.Lines.{line_form}
use Rattle.dt_proto.specs.Session.{session_account}
use Rattle.dt_world.specs.Progress.{with_world}
use Rattle.dt_world.specs.Replay.{Replayed, after_step_line}
use Rattle.dt_world.specs.StepLine.{call_line}
use Rattle.dt_steps.specs.Steps.{with_place, with_session, asking, finishing, opening, publishing, publishing_of}
use Rattle.dt_steps.specs.Steps.{withdrawing, offering, offering_of, closing}
use Rattle.dt_steps.specs.World.{World, Session, Place, session_of, new_session, waiting, may_withdraw, waits}
use Rattle.dt_steps.specs.World.{has_closed}
use Rattle.dt_world.proofs.Firsts.{first_on, seen_as, first-same}

pub either : {A B : Type 0} (P : B → Type 0) (f : A → B) (b : B) (o : Option A) → P b → ((a : A) → P (f a))
    → P (option_map_or f o b)
either P f b None h k = h
either P f b (Some a) h k = k a

module _ (world : World) where
  abbrev Silent : World → Type 0
  Silent after = after.questions ≡ world.questions

  pub opening_silent : (registry : Registry) (seat : ℕ) (name : List ℕ) → Silent (opening registry world seat name)
  unfolding opening
  opening_silent registry seat name =
      cond_both (nat_lt seat SEATS && is_none (world.places seat).present)
      (option_map_or (λ account. with_session world seat (new_session account)) (session_account registry name) world)
      world Silent
      (λ _. either Silent (λ account. with_session world seat (new_session account)) world
      (session_account registry name) refl (λ account. refl))
      (λ _. refl)

  -- the account and the view of the first session on each seat stay as they were
  abbrev pub SameViews : World → Type 0
  SameViews after = (seat : ℕ) → seen_as (session_of after seat 0) ≡ seen_as (session_of world seat 0)

  pub same_views : (at : ℕ) (place : Place) → seen_as (first_on place) ≡ seen_as (first_on (world.places at))
      → SameViews (with_place world at place)
  same_views at place same seat = by_seat (at == seat) refl where
    by_seat : (b : Bool) → (at == seat) ≡ b
        → seen_as (first_on (cond b place (world.places seat))) ≡ seen_as (first_on (world.places seat))
    by_seat true is = subst (λ n. seen_as (first_on place) ≡ seen_as (first_on (world.places n)))
        (eqb-true at seat is) same
    by_seat false is = refl

  pub publishing_silent : (registry : Registry) (seat : ℕ) → Silent (publishing registry world seat)
  unfolding publishing
  publishing_silent registry seat =
      either Silent _ world (world.places seat).present refl
      (λ session. either Silent _ world session.go refl
      (λ pending. cond_both pending.published world (publishing_of registry world seat session pending) Silent
      (λ _. refl) (λ _. refl)))

  pub publishing_views : (registry : Registry) (seat : ℕ) → SameViews (publishing registry world seat)
  unfolding publishing
  publishing_views registry seat = session_case (world.places seat).present refl where
    session_case : (present : Option Session) → (world.places seat).present ≡ present
        → SameViews (option_map_or (λ session. option_map_or (λ pending. cond pending.published world
        (publishing_of registry world seat session pending)) session.go world) present world)
    session_case None is = λ other. refl
    session_case (Some session) is =
        either SameViews _ world session.go (λ other. refl)
        (λ pending. cond_both pending.published world (publishing_of registry world seat session pending) SameViews
        (λ _. λ other. refl)
        (λ _. same_views seat (record {
          present = Some (waiting session pending.line true);
          earlier = (world.places seat).earlier;
        })
        (first-same (world.places seat) session is (waiting session pending.line true) refl refl)))

  pub withdrawing_silent : (registry : Registry) (seat : ℕ) → Silent (withdrawing registry world seat)
  unfolding withdrawing
  withdrawing_silent registry seat =
      cond_both (option_map_or (may_withdraw registry) (world.places seat).present true) _ world Silent
      (λ _. refl) (λ _. refl)

  pub withdrawing_views : (registry : Registry) (seat : ℕ) → SameViews (withdrawing registry world seat)
  unfolding withdrawing
  withdrawing_views registry seat =
      cond_both (option_map_or (may_withdraw registry) (world.places seat).present true) _ world SameViews
      (λ _. λ other. refl) (λ _. λ other. refl)

  pub offering_silent : (cpu seat : ℕ) → Silent (offering world cpu seat)
  unfolding offering
  offering_silent cpu seat =
      either Silent (λ due. offering_of world cpu seat due) world (world.due cpu seat) refl (λ due. refl)

  pub closing_silent : (seat : ℕ) → Silent (closing world seat)
  unfolding closing
  closing_silent seat = either Silent _ world (world.places seat).present refl (λ session. refl)

  pub closing_views : (seat : ℕ) → SameViews (closing world seat)
  unfolding closing
  closing_views seat = session_case (world.places seat).present refl where
    session_case : (present : Option Session) → (world.places seat).present ≡ present
        → SameViews (option_map_or (λ session. with_place world seat
        (record { present = None; earlier = session ∷ (world.places seat).earlier })) present world)
    session_case None is = λ other. refl
    session_case (Some session) is =
        same_views seat (record { present = None; earlier = session ∷ (world.places seat).earlier }) (rw is refl)

module _ (contents : Contents) (now : Replayed) (seat : ℕ) (line : List ℕ) where
  -- the world after the ask of a `call`
  abbrev pub asked_in : World
  asked_in = asking contents.registry now.world seat (line_form line)

  pub called_waiting : waits (asked_in.places seat) ≡ true → after_step_line contents now (call_line seat line)
      ≡ with_world now (finishing (publishing contents.registry asked_in seat) seat)
  called_waiting is = rw is refl

  pub called_closed : waits (asked_in.places seat) ≡ false → has_closed contents.registry (asked_in.places seat) ≡ true
      → after_step_line contents now (call_line seat line)
      ≡ with_world now (closing (withdrawing contents.registry asked_in seat) seat)
  called_closed is closed = rw (is, closed) refl
