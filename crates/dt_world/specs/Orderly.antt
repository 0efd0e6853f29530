-- What a replay brings to a session: lines as they stand in the input, and the firings of the scripts in their order.
use Rattle.std.specs.Prelude.{◌≡◌, ℕ, ◌<◌, List, Option, Some, length}
use Rattle.std.specs.List.{AllByRecursion}
use Rattle.dt_machine.specs.Registry.{Contents, firing_at}
use Rattle.dt_proto.specs.Brought.{IsBrought, IsInForm, IsLower, IsOneLine, HasOnlyLines}
use Rattle.dt_proto.specs.Session.{session_account}
use Rattle.dt_steps.specs.World.{World, Session, Place, Pending, DueOffer}

-- Of each processor's script so many firings were taken.
module _ (contents : Contents) (taken : ℕ → ℕ) where
  -- A session is orderly: a machine's account has it, its lines are such that an input has, and its firings are some of those
  -- that were taken, each processor's at rising places.
  pub record IsOrderly (session : Session) : Type 0 where
    pub name : List ℕ
    pub account : session_account contents.registry name ≡ Some session.account
    pub brought : IsBrought contents session.view
    pub only_lines : HasOnlyLines session.view
    pub below : (cpu : ℕ) → AllByRecursion (IsLower cpu (taken cpu)) session.view
    pub pending : (go : Pending) → session.go ≡ Some go → IsInForm go.line × IsOneLine go.line

  -- An offer is orderly: its firing is one that was taken, and comes after those that reached the session that was named.
  pub record IsOrderlyOffer (place : Place) (cpu : ℕ) (due : DueOffer) : Type 0 where
    pub own : due.firing.cpu ≡ cpu
    pub there : firing_at contents.scripts cpu due.firing.place ≡ Some due.firing
    pub before : due.firing.place < taken cpu
    pub next : (session : Session) → place.present ≡ Some session → due.life ≡ length place.earlier
        → AllByRecursion (IsLower cpu due.firing.place) session.view

  -- A seat is orderly, with the offers that are due to it.
  pub record IsOrderlySeat (due : (cpu : ℕ) → Option DueOffer) (place : Place) : Type 0 where
    pub present : (session : Session) → place.present ≡ Some session → IsOrderly session
    pub earlier : AllByRecursion IsOrderly place.earlier
    pub offers : (cpu : ℕ) (one : DueOffer) → due cpu ≡ Some one → IsOrderlyOffer place cpu one

  abbrev pub IsOrderlyWorld : World → Type 0
  IsOrderlyWorld world = (seat : ℕ) → IsOrderlySeat (λ cpu. world.due cpu seat) (world.places seat)
