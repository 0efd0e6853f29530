-- Keys by the places of their parts.
use Rattle.std.proofs.Common.{◌≡◌, ℕ, zero, suc, true, false, ◌+◌, ◌<◌, ◌≤◌, List, [], ◌∷◌, length, get_or, drop, refl, sym, ap, ◌∙◌, arith, Ordering, Less, ◌⊎◌, ⊎_elim, inl, inr}
use Rattle.std.specs.Prelude.{Option, None, Some}
use Rattle.std.specs.Option.{option_cmp}
use Rattle.std.specs.Ordering.{is_eq, is_ne, ordering_then}
use Rattle.std.specs.declared.cmp.Ordering.TheVariants.{Equal, Greater}
use Rattle.std.proofs.lemmas.Cmp.{tied_itself}
use Rattle.dt_aggstore.specs.Keys.{part_cmp, key_cmp, same_key}
use Rattle.dt_aggstore.specs.Shares.{part_told, parts_told}
use Rattle.dt_aggstore.specs.declared.key.KeyPart.{KeyPart}
use Rattle.dt_aggstore.specs.declared.part_share.PartShare.{PartShare}
use Rattle.dt_aggstore.specs.declared.part_share.PartShare.TheVariants.{Nothing, Number, Text}
use Rattle.dt_aggstore.proofs.Filters.{yes_or_no}
use Rattle.dt_aggstore.proofs.Same.{key_decides}
use Rattle.dt_aggstore.proofs.Rising.{Key, keys_total, key_exact}

pub before_or_at : (k n : ℕ) → k < n + 1 → (k < n) ⊎ (k ≡ n)
before_or_at zero zero small = inr refl
before_or_at zero (suc n) small = inl (omega arith)
before_or_at (suc k) zero small = absurd (omega (arith, small))
before_or_at (suc k) (suc n) small = ⊎_elim
    (λ lt. inl (omega (arith, lt)))
    (λ e. inr (ap suc e))
    (before_or_at k n (omega (arith, small)))

-- ---- parts at a place

-- a key whose first place has a part, or none, and what later places have
abbrev pub then_parts : Option KeyPart → Key → Key
then_parts None later = []
then_parts (Some part) later = part ∷ later

first_told : (place : PartShare) (later : List PartShare) → parts_told (place ∷ later) ≡ then_parts (part_told place) (parts_told later)
first_told Nothing later = refl
first_told (Number number) later = refl
first_told (Text text) later = refl

from_next : (places : List PartShare) (k : ℕ) (d : PartShare) → k < length places
    → parts_told (drop k places) ≡ then_parts (part_told (get_or places k d)) (parts_told (drop (suc k) places))
from_next [] k d small = absurd (omega (arith, small))
from_next (place ∷ places) zero d small = first_told place places
from_next (place ∷ places) (suc k) d small = from_next places k d (omega (arith, small))

-- what places have from one on
pub told_from : (places : List PartShare) (k : ℕ) (d : PartShare) → k < length places
    → parts_told (drop k places) ≡ then_parts (part_told (get_or places k d)) (parts_told (drop (k + 1) places))
told_from places k d small =
    let next : suc k ≡ k + 1 = omega arith in
    from_next places k d small ∙ ap (λ n. then_parts (part_told (get_or places k d)) (parts_told (drop n places))) next

-- places past the last have no part
pub none_past : (places : List PartShare) (k : ℕ) → length places ≤ k → parts_told (drop k places) ≡ []
none_past [] zero past = refl
none_past [] (suc k) past = refl
none_past (place ∷ places) zero past = absurd (omega (arith, past))
none_past (place ∷ places) (suc k) past = none_past places k (omega (arith, past))

-- places have the parts of a key, one after another, and those after them none
pub all_told : (places : List PartShare) (key : Key) → length key ≤ length places
    → ((k : ℕ) (d : PartShare) (e : KeyPart) → k < length key → part_told (get_or places k d) ≡ Some (get_or key k e))
    → ((k : ℕ) (d : PartShare) → length key ≤ k → k < length places → part_told (get_or places k d) ≡ None)
    → parts_told places ≡ key
all_told [] [] few told none = refl
all_told [] (part ∷ key) few told none = absurd (omega (arith, few))
all_told (place ∷ places) [] few told none =
    first_told place places
    ∙ ap (λ a. then_parts a (parts_told places)) (none 0 place (omega arith) (omega arith))
all_told (place ∷ places) (part ∷ key) few told none =
    first_told place places
    ∙ ap (λ a. then_parts a (parts_told places)) (told 0 place part (omega arith))
    ∙ ap (λ later. part ∷ later)
    (all_told places key (omega (arith, few)) (λ k d e small. told (suc k) d e (omega (arith, small)))
    (λ k d past small. none (suc k) d (omega (arith, past)) (omega (arith, small))))

-- ---- the order

-- parts that aren't ordered as equal decide
decided : (o : Ordering) (p : Ordering) → is_ne o ≡ true → ordering_then o p ≡ o
decided Less p ne = refl
decided Equal p ne = cc
decided Greater p ne = refl

pub parts_decide : (a b : Option KeyPart) (later other : Key) → is_ne (option_cmp part_cmp a b) ≡ true
    → option_cmp part_cmp a b ≡ key_cmp (then_parts a later) (then_parts b other)
parts_decide None None later other ne = cc
parts_decide None (Some b) later other ne = refl
parts_decide (Some a) None later other ne = refl
parts_decide (Some a) (Some b) later other ne = sym (decided (part_cmp a b) (key_cmp later other) ne)

-- of two keys that have no part more the order is known
pub both_end : (a b : Option KeyPart) (later other : Key) → is_ne (option_cmp part_cmp a b) ≡ false → a ≡ None
    → option_cmp part_cmp a b ≡ key_cmp (then_parts a later) (then_parts b other)
both_end None None later other eq none = refl
both_end None (Some b) later other eq none = cc
both_end (Some a) b later other eq none = cc

tied : (o : Ordering) → is_ne o ≡ false → o ≡ Equal
tied Less eq = cc
tied Equal eq = refl
tied Greater eq = cc

-- where parts are the same, later ones decide
pub later_decide : (a b : Option KeyPart) (later other : Key) → is_ne (option_cmp part_cmp a b) ≡ false → (a ≡ None → ⊥)
    → key_cmp (then_parts a later) (then_parts b other) ≡ key_cmp later other
later_decide None b later other eq some = absurd (some refl)
later_decide (Some a) None later other eq some = cc
later_decide (Some a) (Some b) later other eq some =
    ap (λ o. ordering_then o (key_cmp later other)) (tied (part_cmp a b) eq)

-- ---- keys that are ordered as equal

same_alike : (a b : Key) → a ≡ b → Equal ≡ key_cmp a b
same_alike a b e = sym (tied_itself keys_total a) ∙ ap (key_cmp a) e

differs : (a b : Key) (o : Ordering) → key_cmp a b ≡ o → (Equal ≡ o → ⊥) → same_key a b ≡ false
differs a b o e other = ⊎_elim
    (λ yes. absurd (other (same_alike a b ((key_decides a b).0 yes) ∙ e)))
    (λ differ. differ)
    (yes_or_no (same_key a b))

-- keys are ordered as equal exactly where they are the same
pub equal_same : (a b : Key) (o : Ordering) → key_cmp a b ≡ o → is_eq o ≡ same_key a b
equal_same a b Less e = sym (differs a b Less e less)
  where
    less : Equal ≡ Less → ⊥
    less f = cc
equal_same a b Equal e = sym ((key_decides a b).1 (key_exact a b e))
equal_same a b Greater e = sym (differs a b Greater e greater)
  where
    greater : Equal ≡ Greater → ⊥
    greater f = cc
