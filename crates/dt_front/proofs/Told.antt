-- Of what all of some values are.
use Rattle.std.proofs.Common.{◌≡◌, ℕ, zero, suc, ◌<◌, List, [], ◌∷◌, ◌++◌, length, get_or, map, Option, Some, None, option_map, refl, ap, sym, take, ◌+◌, ◌∙◌, arith}
use Rattle.std.proofs.lemmas.List.{map_more, map_push}
use Rattle.std.specs.Prelude.{option_and_then}
use Rattle.dt_front.specs.Replies.{all_told}

one_told : {Y : Type 0} (c : Option Y) → option_and_then (λ y. option_map (λ ys. y ∷ ys) (Some [])) c ≡ option_map (λ y. y ∷ []) c
one_told None = refl
one_told (Some y) = refl

more_told : {Y : Type 0} (a : Option Y) (b : Option (List Y)) (c : Option Y)
    → option_and_then (λ y. option_map (λ ys. y ∷ ys) (option_and_then (λ ys. option_map (λ z. ys ++ z ∷ []) c) b)) a
    ≡ option_and_then (λ ys. option_map (λ z. ys ++ z ∷ []) c) (option_and_then (λ y. option_map (λ ys. y ∷ ys) b) a)
more_told None b c = refl
more_told (Some y) None c = refl
more_told (Some y) (Some ys) None = refl
more_told (Some y) (Some ys) (Some z) = refl

-- with one value more
pub all_told_push : {X Y : Type 0} (told : X → Option Y) (xs : List X) (x : X)
    → all_told told (xs ++ x ∷ []) ≡ option_and_then (λ ys. option_map (λ y. ys ++ y ∷ []) (told x)) (all_told told xs)
all_told_push told [] x = one_told (told x)
all_told_push told (w ∷ xs) x =
    ap (λ r. option_and_then (λ y. option_map (λ ys. y ∷ ys) r) (told w)) (all_told_push told xs x)
    ∙ more_told (told w) (all_told told xs) (told x)

none_later : {Y : Type 0} (o : Option Y) (r : Option (List Y)) → None ≡ r → None ≡ option_and_then (λ y. option_map (λ ys. y ∷ ys) r) o
none_later None r none = refl
none_later (Some y) r none = ap (option_map (λ ys. y ∷ ys)) none

-- where one value is nothing
pub all_told_none : {V X Y : Type 0} (view : V → X) (told : X → Option Y) (vs : List V) (k : ℕ) (v : V) → k < length vs → v ≡ get_or vs k v
    → None ≡ told (view v) → None ≡ all_told told (map view vs)
all_told_none view told [] k v within is none = absurd (omega (arith, within))
all_told_none view told (w ∷ vs) zero v within is none =
    ap (option_and_then (λ y. option_map (λ ys. y ∷ ys) (all_told told (map view vs)))) (none ∙ ap (λ u. told (view u)) is)
all_told_none view told (w ∷ vs) (suc k) v within is none =
    none_later (told (view w)) (all_told told (map view vs)) (all_told_none view told vs k v (omega (arith, within)) is none)

-- the next value
pub all_told_more : {V X Y W : Type 0} (view : V → X) (told : X → Option Y) (form : W → Y) (vs : List V) (k : ℕ) (v : V) (done more : List W) (w : W)
    → k < length vs → v ≡ get_or vs k v → Some (map form done) ≡ all_told told (map view (take k vs)) → Some (form w) ≡ told (view v)
    → more ≡ done ++ w ∷ [] → Some (map form more) ≡ all_told told (map view (take (k + 1) vs))
all_told_more view told form vs k v done more w within is before now added =
    ap (λ ws. Some (map form ws)) added
    ∙ ap (λ ys. Some ys) (map_push form done w)
    ∙ ap (λ o. option_and_then (λ ys. option_map (λ y. ys ++ y ∷ []) o) (Some (map form done))) now
    ∙ ap (option_and_then (λ ys. option_map (λ y. ys ++ y ∷ []) (told (view v)))) before
    ∙ sym (all_told_push told (map view (take k vs)) (view v))
    ∙ ap (λ u. all_told told (map view (take k vs) ++ view u ∷ [])) is
    ∙ ap (all_told told) (sym (map_more view vs k v within))
