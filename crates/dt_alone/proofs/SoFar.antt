-- The items or the items so far, and one more.
use Rattle.std.proofs.Common.{◌≡◌, ℕ, ◌+◌, ◌<◌, ◌↔◌, Bool, true, false, List, [], ◌∷◌, ◌++◌, cond, length, get_or, take}
use Rattle.std.proofs.Common.{drop, map, reverse, IsTrue, refl, sym, ap, ◌∙◌, inl, inr, arith}
use Rattle.std.proofs.lemmas.List.{drop_more, length-map, length-take-le, map-append, map_more, reverse-append}
use Rattle.std.proofs.lemmas.List.{take-append-drop}
use Rattle.dt_cred.specs.declared.account.Account.{Account}
use Rattle.dt_machine.specs.Registry.{Registry}
use Rattle.dt_cred.specs.declared.firing.Firing.{Firing}
use Rattle.dt_life.specs.Life.{Item, fired}
use Rattle.dt_life.specs.Sees.{Sees}
use Rattle.dt_proto.specs.Alone.{IsAfterFiring}

-- the newest first, of what a function makes of the elements so far
pub so_far_more : {X Y : Type 0} (f : X → Y) (xs : List X) (i : ℕ) (d : X) → i < length xs
    → reverse (map f (take (i + 1) xs)) ≡ f (get_or xs i d) ∷ reverse (map f (take i xs))
so_far_more f xs i d within = ap reverse (map_more f xs i d within)
    ∙ reverse-append (map f (take i xs)) (f (get_or xs i d) ∷ [])

pub cut_here : {X Y : Type 0} (f : X → Y) (xs : List X) (i : ℕ) (d : X) → i < length xs
    → map f xs ≡ map f (take i xs) ++ (f (get_or xs i d) ∷ map f (drop (i + 1) xs))
cut_here f xs i d within = ap (map f) (sym (take-append-drop i xs)) ∙ map-append f (take i xs) (drop i xs)
    ∙ ap (λ later. map f (take i xs) ++ map f later) (drop_more xs i d within)

pub length_so_far : {X Y : Type 0} (f : X → Y) (xs : List X) (i : ℕ) → i < length xs → length (map f (take i xs)) ≡ i
length_so_far f xs i within = length-map (take i xs) f ∙ length-take-le i xs (omega arith)

-- what an offer leaves of a life
pub after_offer : (account : Account) (registry : Registry) (life : List Item) (firing : Firing) (seen : Bool)
    → (IsTrue seen ↔ Sees account registry life firing)
    → IsAfterFiring account registry life firing (cond seen (fired firing ∷ life) life)
after_offer account registry life firing true h = inl (h.0 refl, refl)
after_offer account registry life firing false h = inr (λ sees. let bad = h.1 sees in cc, refl)
