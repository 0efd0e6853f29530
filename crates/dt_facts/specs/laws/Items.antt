-- What lists of items say of a life.
use Rattle.std.proofs.Common.{◌≡◌, ◌≢◌, ℕ, ◌==◌, List, [], ◌∷◌, ◌++◌, length, map, drop, Bool, cond, refl, sym, ap, ◌∙◌, eq-eqb, ne_eqb, append-nil}
use Rattle.std.proofs.lemmas.List.{map-append}
use Rattle.std.proofs.lemmas.List.Elements.{filter-append}
use Rattle.std.specs.List.{filter}
use mathlib.Core.List.{IsPrefix}
use Rattle.dt_trail.specs.Items.{TrailItem, longer}
use Rattle.dt_facts.specs.declared.fact.LifeItem.{LifeItem}
use Rattle.dt_facts.specs.Lives.{life_item, items_of_life, known_more}
use Rattle.dt_facts.specs.laws.Beginnings.{prefix_longer}

items_both : (life : ℕ) (some rest : List LifeItem) → items_of_life life (some ++ rest) ≡ items_of_life life some ++ items_of_life life rest
items_both life some rest =
    ap (map (λ (one : LifeItem). one.item)) (filter-append (λ (one : LifeItem). one.life == life) some rest)
    ∙ map-append (λ (one : LifeItem). one.item) (filter (λ (one : LifeItem). one.life == life) some)
    (filter (λ (one : LifeItem). one.life == life) rest)

-- The items of a life in a beginning begin those in the whole.
pub items_begin : (life : ℕ) (some all : List LifeItem) → IsPrefix some all → IsPrefix (items_of_life life some) (items_of_life life all)
items_begin life some all begins =
    (items_of_life life begins.0, sym (items_both life some begins.0) ∙ ap (items_of_life life) begins.1)

-- Of two beginnings the one with more items of a life has all that the other has of it.
pub items_longer : (life : ℕ) (xs ys all : List LifeItem) → IsPrefix xs all → IsPrefix ys all
    → IsPrefix (items_of_life life xs) (longer (items_of_life life xs) (items_of_life life ys))
    × IsPrefix (items_of_life life ys) (longer (items_of_life life xs) (items_of_life life ys))
items_longer life xs ys all a b =
    let both = prefix_longer (items_of_life life xs) (items_of_life life ys) (items_of_life life all) (items_begin life xs all a) (items_begin life ys all b) in
    (both.1, both.2)

items_here : (life : ℕ) (items : List TrailItem) → items_of_life life (map (life_item life) items) ≡ items
items_here life [] = refl
items_here life (item ∷ items) =
    ap (λ (b : Bool). map (λ (one : LifeItem). one.item) (cond b (life_item life item ∷ filter (λ (one : LifeItem). one.life == life) (map (life_item life) items)) (filter (λ (one : LifeItem). one.life == life) (map (life_item life) items))))
    (eq-eqb life life refl)
    ∙ ap (λ (l : List TrailItem). item ∷ l) (items_here life items)

items_elsewhere : (life other : ℕ) (items : List TrailItem) → life ≢ other → items_of_life other (map (life_item life) items) ≡ []
items_elsewhere life other [] apart = refl
items_elsewhere life other (item ∷ items) apart =
    ap (λ (b : Bool). map (λ (one : LifeItem). one.item) (cond b (life_item life item ∷ filter (λ (one : LifeItem). one.life == other) (map (life_item life) items)) (filter (λ (one : LifeItem). one.life == other) (map (life_item life) items))))
    (ne_eqb life other apart)
    ∙ items_elsewhere life other items apart

behind : {A : Type 0} (xs all : List A) → IsPrefix xs all → xs ++ drop (length xs) all ≡ all
behind [] all begins = refl
behind (x ∷ xs) [] begins = absurd (cc (begins.1))
behind (x ∷ xs) (y ∷ all) begins =
    let rest : xs ++ drop (length xs) all ≡ all = behind xs all (begins.0, cc (begins.1)) in
    let heads : x ≡ y = cc (begins.1) in
    cc (heads, rest)

-- All these items of the life are known then, and of other lives what was known.
pub items_known : (life : ℕ) (list : List LifeItem) (knows : List TrailItem) → IsPrefix (items_of_life life list) knows
    → items_of_life life (known_more life knows list) ≡ knows
items_known life list knows begins =
    let more : List TrailItem = drop (length (items_of_life life list)) knows in
    items_both life list (map (life_item life) more)
    ∙ ap (λ (l : List TrailItem). items_of_life life list ++ l) (items_here life more)
    ∙ behind (items_of_life life list) knows begins

pub items_of_others : (life other : ℕ) (list : List LifeItem) (knows : List TrailItem) → life ≢ other
    → items_of_life other (known_more life knows list) ≡ items_of_life other list
items_of_others life other list knows apart =
    let more : List TrailItem = drop (length (items_of_life life list)) knows in
    items_both other list (map (life_item life) more)
    ∙ ap (λ (l : List TrailItem). items_of_life other list ++ l) (items_elsewhere life other more apart)
    ∙ append-nil (items_of_life other list)
