-- What a look names of one seat.
use Rattle.std.proofs.Common.{◌≡◌, ◌↔◌, ℕ, Bool, true, false, cond, IsTrue, Option, Some, None, ap, sym, subst, refl}
use Rattle.std.specs.Option.{option_map, IsSomeAnd}
use Rattle.dt_cred.specs.declared.firing.Firing.{Firing}
use Rattle.dt_machine.specs.Interest as interest
use Rattle.dt_machine.specs.Registry.{Registry, Belongs}
use Rattle.dt_machine.specs.Tests.{is_shown}
use Rattle.dt_machine.specs.laws.Tests.{shown_from, shown_to}
use Rattle.dt_chain.specs.Kept.{slot_of, life_shown}
use Rattle.dt_chain.specs.Look.{NamesFiring}
use Rattle.dt_chain.specs.Writes.{Published}
use Rattle.dt_chain.specs.declared.entries.SeatSlot.{SeatSlot}

named_from : (named shown : Bool) (own life : ℕ) → cond named (cond shown (Some own) None) None ≡ Some life
    → (named ≡ true) × (shown ≡ true) × (own ≡ life)
named_from true true own life h = (refl, refl, cc)
named_from true false own life h = cc
named_from false shown own life h = cc

named_to : (named shown : Bool) (own life : ℕ) → named ≡ true → shown ≡ true → own ≡ life
    → cond named (cond shown (Some own) None) None ≡ Some life
named_to named shown own life n s e = rw (n, s) (ap Some e)

module _ (registry : Registry) (firing : Firing) (belongs : Belongs registry firing) where
  seen_at : (named : Bool) (publication : Option Published)
      → (IsTrue named ↔ IsSomeAnd publication (λ e. interest.Names e.probes firing.probe)) → (life : ℕ)
      → (cond named (life_shown registry firing (option_map slot_of publication)) None ≡ Some life)
      ↔ IsSomeAnd publication (λ e. (e.life ≡ life) × NamesFiring registry e firing)
  seen_at true None listed life = (λ h. cc, λ h. absurd h)
  seen_at false None listed life = (λ h. cc, λ h. absurd h)
  seen_at named (Some e) listed life = (
    λ h.
        let is = named_from named (is_shown e.account registry firing) e.life life h in (
          is.2,
          record {
            belongs = belongs;
            interested = listed.0 is.0;
            admitted = shown_from e.account registry firing is.1;
          },
        ),
    λ h. named_to named (is_shown e.account registry firing) e.life life (listed.1 h.1.interested)
        (shown_to e.account registry firing h.1.admitted) h.0,
  )

  -- what a look names of a seat that is listed, and whose slot keeps its publication
  pub look_at : (named : Bool) (slot : Option SeatSlot) (publication : Option Published) → slot ≡ option_map slot_of publication
      → (IsTrue named ↔ IsSomeAnd publication (λ e. interest.Names e.probes firing.probe)) → (life : ℕ)
      → (cond named (life_shown registry firing slot) None ≡ Some life)
      ↔ IsSomeAnd publication (λ e. (e.life ≡ life) × NamesFiring registry e firing)
  look_at named slot publication kept listed life =
      let P : Option SeatSlot → Type 0 = λ s. (cond named (life_shown registry firing s) None ≡ Some life)
      ↔ IsSomeAnd publication (λ e. (e.life ≡ life) × NamesFiring registry e firing) in
      subst P (sym kept) (seen_at named publication listed life)
