-- The trail of a view is that of its seen view; its replies are the first that the view is answered alone; and its text tells it.
use Rattle.std.proofs.Common.{◌≡◌, ◌++◌, Bool, true, false, cond, List, [], ◌∷◌}
use Rattle.std.proofs.Common.{refl, sym, ap, ◌∙◌, subst, ⊎_elim, inr}
use Rattle.std.proofs.lemmas.List.{append-nil}
use Rattle.std.proofs.lemmas.Bool.{both_ways}
use Rattle.dt_cred.specs.declared.account.Account.{Account}
use Rattle.dt_cred.specs.declared.firing.Firing.{Firing}
use Rattle.dt_life.specs.Life.{Item}
use Rattle.dt_life.specs.Sees.{Sees}
use Rattle.dt_life.specs.Tests.{is_seen}
use Rattle.dt_life.specs.laws.Seeing.{seen_from, seen_to}
use Rattle.dt_machine.specs.Registry.{Registry}
use Rattle.dt_proto.specs.Alone.{Reached, own_line, firing_made, IsLifeOf}
use Rattle.dt_proto.specs.Trail.{WrittenItem, fired_at, IsLineTold, IsToldFiring, IsTrailOf}
use Rattle.dt_proto.specs.Views.{life_of, seen_view}
use Rattle.dt_proto.specs.laws.Views.{is_life, one_life, life-seen_view}

module _ (account : Account) (registry : Registry) where
  -- what a firing adds to a trail, by whether it is seen
  told_seen : (life : List Item) (firing : Firing) (new : List WrittenItem)
      → is_seen account registry life firing ≡ true → IsToldFiring account registry life firing new
      → new ≡ fired_at firing.cpu firing.place ∷ []
  told_seen life firing new seen told =
      ⊎_elim (λ yes. yes.1) (λ no. absurd (no.0 (seen_from account registry life firing seen))) told

  told_unseen : (life : List Item) (firing : Firing) (new : List WrittenItem)
      → is_seen account registry life firing ≡ false → IsToldFiring account registry life firing new → new ≡ []
  told_unseen life firing new unseen told =
      ⊎_elim
      (λ yes. absurd (both_ways (is_seen account registry life firing) unseen (seen_to account registry life firing yes.0)))
      (λ no. no.1) told

  unseen_is : (life : List Item) (firing : Firing) → is_seen account registry life firing ≡ false
      → Sees account registry life firing → ⊥
  unseen_is life firing unseen sees =
      both_ways (is_seen account registry life firing) unseen (seen_to account registry life firing sees)

  -- to the seen view
  firing_kept : (view : List Reached) (firing : Firing) (seen : Bool) (items earlier new : List WrittenItem)
      → is_seen account registry (life_of account registry view) firing ≡ seen
      → IsTrailOf account registry (seen_view account registry view) earlier
      → IsToldFiring account registry (life_of account registry view) firing new → items ≡ earlier ++ new
      → IsTrailOf account registry
      (cond seen (firing_made firing ∷ seen_view account registry view) (seen_view account registry view)) items
  firing_kept view firing true items earlier new seen h told is = (
    life_of account registry view,
    earlier,
    new,
    subst (IsLifeOf account registry (seen_view account registry view)) (life-seen_view account registry view)
        (is_life account registry (seen_view account registry view)),
    h,
    told,
    is,
  )
  firing_kept view firing false items earlier new seen h told is =
      let nothing : new ≡ [] = told_unseen (life_of account registry view) firing new seen told in
      let same : items ≡ earlier = is ∙ ap (λ more. earlier ++ more) nothing ∙ append-nil earlier in
      subst (IsTrailOf account registry (seen_view account registry view)) (sym same) h

  pub trail_seen : (view : List Reached) (items : List WrittenItem) → IsTrailOf account registry view items
      → IsTrailOf account registry (seen_view account registry view) items
  trail_seen [] items h = h
  trail_seen (own_line line ∷ view) items h = (
    life_of account registry view,
    h.1,
    h.2,
    subst (IsLifeOf account registry (seen_view account registry view)) (life-seen_view account registry view)
        (is_life account registry (seen_view account registry view)),
    trail_seen view h.1 h.4,
    subst (λ life. IsLineTold account registry life line h.2) (one_life account registry view h.0 h.3) h.5,
    h.6,
  )
  trail_seen (firing_made firing ∷ view) items h =
      firing_kept view firing (is_seen account registry (life_of account registry view) firing) items h.1 h.2 refl
      (trail_seen view h.1 h.4)
      (subst (λ life. IsToldFiring account registry life firing h.2) (one_life account registry view h.0 h.3) h.5) h.6

  -- from the seen view
  firing_back : (view : List Reached) (firing : Firing) (seen : Bool) (items : List WrittenItem)
      → is_seen account registry (life_of account registry view) firing ≡ seen
      → ((earlier : List WrittenItem) → IsTrailOf account registry (seen_view account registry view) earlier
      → IsTrailOf account registry view earlier)
      → IsTrailOf account registry
      (cond seen (firing_made firing ∷ seen_view account registry view) (seen_view account registry view)) items
      → IsTrailOf account registry (firing_made firing ∷ view) items
  firing_back view firing true items seen back h = (
    life_of account registry view,
    h.1,
    h.2,
    is_life account registry view,
    back h.1 h.4,
    subst (λ life. IsToldFiring account registry life firing h.2)
        (one_life account registry (seen_view account registry view) h.0 h.3 ∙ life-seen_view account registry view) h.5,
    h.6,
  )
  firing_back view firing false items seen back h = (
    life_of account registry view,
    items,
    [],
    is_life account registry view,
    back items h,
    inr (unseen_is (life_of account registry view) firing seen, refl),
    sym (append-nil items),
  )

  pub trail_of_seen : (view : List Reached) (items : List WrittenItem)
      → IsTrailOf account registry (seen_view account registry view) items → IsTrailOf account registry view items
  trail_of_seen [] items h = h
  trail_of_seen (own_line line ∷ view) items h = (
    life_of account registry view,
    h.1,
    h.2,
    is_life account registry view,
    trail_of_seen view h.1 h.4,
    subst (λ life. IsLineTold account registry life line h.2)
        (one_life account registry (seen_view account registry view) h.0 h.3 ∙ life-seen_view account registry view) h.5,
    h.6,
  )
  trail_of_seen (firing_made firing ∷ view) items h =
      firing_back view firing (is_seen account registry (life_of account registry view) firing) items refl
      (trail_of_seen view) h
