-- A step that takes no write from the published list keeps the rule of the chains.
use Rattle.std.proofs.Common.{◌≡◌, ℕ, ◌≢◌, List, [], set, refl, subst, ⊎_elim}
use mathlib.Core.Option.{some}
use mathlib.Core.List.{IsPrefix}
use lib.ListN.{get_elem?}
use Rattle.logbook.specs.Pages.{Book}
use Rattle.left_right.specs.Register.{Admits, TurnsAt}
use Rattle.atomic_table.proofs.Lists.{at_set, at_snoc}
use Rattle.dt_chain.specs.Writes.{Write}
use Rattle.dt_chain.specs.Copies.{Copied}
use Rattle.dt_chain.specs.Chains.{AreBelow, IsChain, EndShows, copy_of}
use Rattle.dt_chain.proofs.Fronts.{prefix_self, prefix_trans}

-- A new end has seen nothing.
pub admits : (book : Book) → Admits (IsChain book) []
admits book x views h = (
  h.0,
  (λ seat v at.
      ⊎_elim (h.1 seat v)
      (λ (e : [] ≡ v). subst (λ (z : List Write). IsPrefix z x.mark.log) e (x.mark.log, refl))
      (at_snoc views [] v seat at)),
)

below_set : (log new : List Write) (views : List (List Write)) (seat : ℕ) → AreBelow log views → IsPrefix log new
    → AreBelow new (set views seat new)
below_set log new views seat h up j u e =
    ⊎_elim (λ (t : (j ≡ seat) × (new ≡ u)). subst (λ (z : List Write). IsPrefix z new) t.1 (prefix_self new))
    (λ (t : (j ≢ seat) × (get_elem? views j ≡ some u)). prefix_trans u log new (h j u t.1) up)
    (at_set views seat j new u e)

-- a step to a longer list, of which the copy has the writes
pub rises : (book : Book) (seat : ℕ) (v : List Write) (x y : Copied) → y ≡ copy_of book y.mark.log
    → IsPrefix x.mark.log y.mark.log → TurnsAt (IsChain book) seat v x y (EndShows book)
rises book seat v x y is up views h at = (
  y.mark.log,
  (is, below_set x.mark.log y.mark.log views seat h.1 up),
  (prefix_trans v x.mark.log y.mark.log (h.1 seat v at) up, is),
)

-- a reader's step
pub enters : (book : Book) (seat : ℕ) (v : List Write) (x : Copied) → TurnsAt (IsChain book) seat v x x (EndShows book)
enters book seat v x views h at = rises book seat v x x h.0 (prefix_self x.mark.log) views h at
