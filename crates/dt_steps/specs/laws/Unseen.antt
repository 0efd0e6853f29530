-- A session that a look doesn't name doesn't see the firing.
use Rattle.std.proofs.Common.{◌≡◌, ℕ, ◌==◌, true, false, cond, List, Option, Some, None, refl, ap, ◌∙◌}
use Rattle.std.proofs.lemmas.Bool.{eq-eqb, and_parts, and_from, both_ways, false_from_ne_true}
use Rattle.std.specs.Option.{option_map_or, option_and_then}
use Rattle.dt_cred.specs.declared.account.Account.{Account}
use Rattle.dt_machine.specs.Registry.{Registry}
use Rattle.dt_cred.specs.declared.firing.Firing.{Firing}
use Rattle.dt_chain.specs.Writes.{Published}
use Rattle.dt_life.specs.Life.{Item, phase, ecbs, is_active}
use Rattle.dt_steps.specs.Sound.{publication_of, IsSoundSession}
use Rattle.dt_life.specs.Tests.{is_seen}
use Rattle.dt_chain.specs.Tests.{is_named}
use Rattle.dt_steps.specs.World.{Pending}
use Rattle.dt_ecb.specs.laws.Interest.{interest_flag}

-- a session that a look doesn't name doesn't see the firing
module _ (registry : Registry) (account : Account) (life : List Item) (n : ℕ) (firing : Firing) where
  named_own : is_seen account registry life firing ≡ true
      → is_named registry (publication_of registry account life n) firing ≡ true
  unfolding is_seen is_named
  named_own h =
      let a = and_parts _ _ h in
      let b = and_parts _ _ a.1 in
      let c = and_parts _ _ b.1 in
      and_from _ _ b.0 (and_from _ _ (interest_flag (ecbs account registry life) firing.probe ∙ c.0) c.1)

  seen_active : is_seen account registry life firing ≡ true → is_active (phase account registry life) ≡ true
  unfolding is_seen
  seen_active h = (and_parts _ _ h).0

  abbrev pub named_by : Option Published → Option ℕ
  named_by publication = option_and_then (λ one. cond (is_named registry one firing) (Some one.life) None) publication

  pub unseen_unless_named : (go : Option Pending) (publication : Option Published)
      → IsSoundSession registry account life go n publication
      → option_map_or (λ own. own == n) (named_by publication) false ≡ false → is_seen account registry life firing ≡ false
  unseen_unless_named go publication is_sound unnamed =
      false_from_ne_true (is_seen account registry life firing) (λ seen.
      let own : publication ≡ Some (publication_of registry account life n) = is_sound.traces (seen_active seen) in
      let named : named_by publication ≡ Some n =
      ap named_by own ∙ ap (λ b. cond b (Some n) None) (named_own seen) in
      let yes : option_map_or (λ m. m == n) (named_by publication) false ≡ true =
      ap (λ o. option_map_or (λ m. m == n) o false) named ∙ eq-eqb n n refl in
      both_ways (option_map_or (λ m. m == n) (named_by publication) false) unnamed yes)
