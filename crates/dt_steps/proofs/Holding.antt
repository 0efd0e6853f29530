-- A seat after each of its calls.
use Rattle.std.proofs.Common.{◌≡◌, ℕ, ◌+◌, ◌==◌, Bool, true, false, cond, List, ◌∷◌, length, Option, Some, None, IfSome}
use Rattle.std.proofs.Common.{is_some, refl, sym, ap, ◌∙◌, arith}
use Rattle.std.proofs.lemmas.Bool.{eq-eqb}
use Rattle.dt_life.specs.Life.{fired}
use Rattle.dt_life.specs.Tests.{is_seen}
use Rattle.dt_machine.specs.Registry.{Registry}
use Rattle.dt_machine.specs.Shown.{IsShown}
use Rattle.dt_proto.specs.Lines.{LineForm}
use Rattle.dt_steps.specs.Sound.{IsDueToShown}
use Rattle.dt_steps.specs.Stands.{IsSessionOf, IsSession, IsPresent, IsPlace, IsAsked, IsAskedOn, IsFinishing, IsFinishedOn}
use Rattle.dt_steps.specs.Stands.{closed_on, sees_on}
use Rattle.dt_steps.specs.Steps.{offered}
use Rattle.dt_steps.specs.World as world
use Rattle.dt_steps.specs.World.{DueOffer, life_in, may_ask}
use Rattle.dt_steps.specs.declared.place.Place.{Place}
use Rattle.dt_steps.specs.declared.session.Session.{Session}
use Rattle.dt_steps.proofs.Accounts.{shown_present}

module _ (registry : Registry) where
  present_known : (session : Option world.Session) (served : Option Session) → IsPresent registry session served
      → is_some served ≡ is_some session
  present_known None None h = refl
  present_known None (Some served) h = absurd h
  present_known (Some session) None h = absurd h
  present_known (Some session) (Some served) h = refl

  -- the session that is served
  pub record Serves (place : world.Place) (served : Session) : Type 0 where
    pub session : world.Session
    pub is : place.present ≡ Some session
    pub kept : IsSession registry session served

  serves_at : (place : world.Place) (present : Option world.Session) (served : Session) → place.present ≡ present
      → IsPresent registry present (Some served) → Serves place served
  serves_at place None served is h = absurd h
  serves_at place (Some session) served is h = record { session = session; is = is; kept = h }

  module _ (place : world.Place) (held : Place) (h : IsPlace registry place held) where
    pub serves : (served : Session) → held.present ≡ Some served → Serves place served
    serves served is = serves_at place place.present served refl (rw is at h.present)

    -- the session that is there is the one that is served
    pub served_session : (served : Session) (session : world.Session) → held.present ≡ Some served
        → place.present ≡ Some session → IsSession registry session served
    served_session served session is at = rw (is, at) at h.present

    known : is_some held.present ≡ is_some place.present
    known = present_known place.present held.present h.present

    -- its session was asked a line
    pub asked-session : (line : LineForm) (reply : Option (List ℕ)) (served after : Session)
        → held.present ≡ Some served → ((session : world.Session) → IsSession registry session served
        → (may_ask registry session ≡ true) × IsAsked registry session line reply after)
        → IsAskedOn registry place line reply (record { present = Some after; earlier = held.earlier })
    asked-session line reply served after is asks =
        let s = serves served is in
        let a = asks s.session s.kept in
        rw (s.is, a.0) (after, h.counted, refl, a.1)

    pub finished-session : (reply : Option (List ℕ)) (served after : Session) → held.present ≡ Some served
        → ((session : world.Session) → IsSession registry session served → IsFinishing registry session reply after)
        → IsFinishedOn registry place reply (record { present = Some after; earlier = held.earlier })
    finished-session reply served after is does =
        let s = serves served is in
        rw s.is (after, h.counted, refl, does s.session s.kept)

    -- a firing was offered to it, which names its own life: whether it saw the firing, and what it is then
    own_life : (due : DueOffer) → due.life ≡ held.earlier → (due.life == length place.earlier) ≡ true
    own_life due own = eq-eqb due.life (length place.earlier) (own ∙ h.counted)

    pub seen-session : (due : DueOffer) (seen : Bool) (served : Session) → held.present ≡ Some served
        → due.life ≡ held.earlier → IsDueToShown registry place due
        → ((session : world.Session) → IsSession registry session served → IsShown session.account registry due.firing
        → seen ≡ is_seen session.account registry (life_in registry session) due.firing)
        → seen ≡ sees_on registry due place
    seen-session due seen served is own shown sees =
        let s = serves served is in
        rw (s.is, own_life due own)
        (sees s.session s.kept (shown_present registry place s.session due s.is (own ∙ h.counted) shown))

    pub offered-session : (due : DueOffer) (served after : Session) → held.present ≡ Some served
        → due.life ≡ held.earlier → IsDueToShown registry place due
        → ((session : world.Session) → IsSession registry session served → IsShown session.account registry due.firing
        → IsSessionOf registry session.account
        (cond (is_seen session.account registry (life_in registry session) due.firing)
        (fired due.firing ∷ life_in registry session) (life_in registry session)) session.go after)
        → IsPlace registry (offered due place) (record { present = Some after; earlier = held.earlier })
    offered-session due served after is own shown reaches =
        let s = serves served is in
        rw (s.is, own_life due own) (record {
          counted = h.counted;
          present = reaches s.session s.kept
              (shown_present registry place s.session due s.is (own ∙ h.counted) shown);
        })

    -- its session ends
    pub closed-session : (earlier : ℕ) → is_some held.present ≡ true → earlier ≡ held.earlier + 1
        → IsPlace registry (closed_on place) (record { present = None; earlier = earlier })
    closed-session earlier some is = closed_at place.present refl (sym known ∙ some) where
      closed_at : (present : Option world.Session) → place.present ≡ present → is_some place.present ≡ true
          → IsPlace registry (closed_on place) (record { present = None; earlier = earlier })
      closed_at None at taken = let bad : false ≡ true = sym (ap is_some at) ∙ taken in cc
      closed_at (Some session) at taken =
          rw at (record { counted = is ∙ omega (arith, h.counted); present = tt })

pub some_weaker : {A : Type 0} (o : Option A) (P Q : A → Type 0) → ((a : A) → P a → Q a) → IfSome o P → IfSome o Q
some_weaker None P Q f h = h
some_weaker (Some a) P Q f h = f a h
