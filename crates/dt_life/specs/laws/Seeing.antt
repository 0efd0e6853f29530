-- The tests of what is seen are the relations that they stand for.
use Rattle.std.proofs.Common.{◌≡◌, Bool, true, false, List, IsTrue, ◌↔◌, refl, sym, ap}
use Rattle.std.proofs.lemmas.Bool.{and_parts, and_from, false_from_ne_true}
use Rattle.dt_cred.specs.declared.account.Account.{Account}
use Rattle.dt_machine.specs.Registry.{Registry}
use Rattle.dt_cred.specs.declared.firing.Firing.{Firing}
use Rattle.dt_life.specs.Life.{Item, phase, ecbs, is_active}
use Rattle.dt_life.specs.Sees.{Sees}
use Rattle.dt_life.specs.declared.phase.Phase.{Phase}
use Rattle.dt_life.specs.declared.phase.Phase.TheVariants.{Inactive, Active, Stopped}
use Rattle.dt_life.specs.Tests.{is_seen}
use Rattle.dt_machine.specs.laws.Tests.{belongs_from, belongs_to, shown_from, shown_to}
use Rattle.dt_ecb.specs.laws.Interest.{wanted_from, wanted_to}

pub active_from : (phase : Phase) → is_active phase ≡ true → phase ≡ Active
active_from Inactive h = cc
active_from Active h = refl
active_from (Stopped cause) h = cc

pub active_to : (phase : Phase) → phase ≡ Active → is_active phase ≡ true
active_to phase h = ap is_active h

module _ (account : Account) (registry : Registry) (life : List Item) (firing : Firing) where
  pub seen_from : is_seen account registry life firing ≡ true → Sees account registry life firing
  unfolding is_seen
  seen_from h =
      let a = and_parts _ _ h in
      let b = and_parts _ _ a.1 in
      let c = and_parts _ _ b.1 in
      record {
        active = active_from (phase account registry life) a.0;
        belongs = belongs_from registry firing b.0;
        named = wanted_from (ecbs account registry life) firing.probe c.0;
        admitted = shown_from account registry firing c.1;
      }

  pub seen_to : Sees account registry life firing → is_seen account registry life firing ≡ true
  unfolding is_seen
  seen_to h =
      and_from _ _ (active_to (phase account registry life) h.active)
      (and_from _ _ (belongs_to registry firing h.belongs)
      (and_from _ _ (wanted_to (ecbs account registry life) firing.probe h.named)
      (shown_to account registry firing h.admitted)))

  pub unseen_to : (Sees account registry life firing → ⊥) → is_seen account registry life firing ≡ false
  unseen_to h = false_from_ne_true (is_seen account registry life firing) (λ seen. h (seen_from seen))

  -- what tells whether a firing is seen is the test
  pub seen_told : (told : Bool) → IsTrue told ↔ Sees account registry life firing
      → told ≡ is_seen account registry life firing
  seen_told true h = sym (seen_to (h.0 refl))
  seen_told false h = sym (unseen_to (λ sees. let bad : false ≡ true = h.1 sees in cc))
