-- The function that gives what a look names gives what the relation says.
use Rattle.std.proofs.Common.{◌≡◌, ℕ, Bool, true, false, cond, List, Option, Some, None, unwrap_or, IsSomeAnd, refl, ap}
use Rattle.std.proofs.lemmas.Bool.{and_parts, and_from}
use Rattle.std.specs.List.{slice_get}
use Rattle.std.specs.Option.{option_and_then}
use Rattle.dt_machine.specs.Registry.{Registry}
use Rattle.dt_cred.specs.declared.firing.Firing.{Firing}
use Rattle.dt_chain.specs.Look.{NamesFiring, IsLook}
use Rattle.dt_chain.specs.Writes.{Write, Published, published_on}
use Rattle.dt_chain.specs.Tests.{is_named, mask_of}
use Rattle.dt_machine.specs.laws.Tests.{belongs_from, belongs_to, shown_from, shown_to}

flag_from : (o : Option Bool) → unwrap_or o false ≡ true → o ≡ Some true
flag_from None h = cc
flag_from (Some flag) h = ap Some h

module _ (registry : Registry) (publication : Published) (firing : Firing) where
  named_from : is_named registry publication firing ≡ true → NamesFiring registry publication firing
  unfolding is_named
  named_from h =
      let a = and_parts _ _ h in
      let b = and_parts _ _ a.1 in
      record {
        belongs = belongs_from registry firing a.0;
        interested = flag_from (slice_get publication.probes firing.probe) b.0;
        admitted = shown_from publication.account registry firing b.1;
      }

  named_to : NamesFiring registry publication firing → is_named registry publication firing ≡ true
  unfolding is_named
  named_to h =
      let flag : unwrap_or (slice_get publication.probes firing.probe) false ≡ true =
      ap (λ o. unwrap_or o false) h.interested in
      and_from _ _ (belongs_to registry firing h.belongs)
      (and_from _ _ flag (shown_to publication.account registry firing h.admitted))

abbrev life_named : Registry → Firing → Option Published → Option ℕ
life_named registry firing publication = option_and_then
    (λ one. cond (is_named registry one firing) (Some one.life) None) publication

some_from : (named : Bool) (own life : ℕ) → cond named (Some own) None ≡ Some life → (named ≡ true) × (own ≡ life)
some_from true own life h = (refl, cc)
some_from false own life h = cc

some_to : (named : Bool) (own life : ℕ) → named ≡ true → own ≡ life → cond named (Some own) None ≡ Some life
some_to named own life h e = rw h (ap Some e)

look_from : (registry : Registry) (firing : Firing) (publication : Option Published) (life : ℕ)
    → life_named registry firing publication ≡ Some life
    → IsSomeAnd publication (λ one. (one.life ≡ life) × NamesFiring registry one firing)
look_from registry firing None life h = cc
look_from registry firing (Some one) life h =
    let is = some_from (is_named registry one firing) one.life life h in
    (is.1, named_from registry one firing is.0)

look_to : (registry : Registry) (firing : Firing) (publication : Option Published) (life : ℕ)
    → IsSomeAnd publication (λ one. (one.life ≡ life) × NamesFiring registry one firing)
    → life_named registry firing publication ≡ Some life
look_to registry firing None life h = absurd h
look_to registry firing (Some one) life h =
    some_to (is_named registry one firing) one.life life (named_to registry one firing h.1) h.0

pub mask_is_look : (registry : Registry) (writes : List Write) (firing : Firing)
    → IsLook registry writes firing (mask_of registry writes firing)
unfolding mask_of
mask_is_look registry writes firing = record {
  exactly = λ seat life. (
    look_from registry firing (published_on writes seat) life,
    look_to registry firing (published_on writes seat) life,
  );
}
