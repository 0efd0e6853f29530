-- Of the rows of a picture that are shown.
use Rattle.std.proofs.Common.{◌≡◌, ℕ, ◌+◌, ◌-◌, ◌≤◌, Bool, true, false, cond, not, ◌<◌, get_or, List, [], ◌∷◌, ◌++◌, map, length, take, drop, reverse, All, refl, ap, sym, ◌∙◌, arith, append_assoc, length-drop}
use Rattle.std.proofs.lemmas.List.{drop-map, take-map, take_all}
use Rattle.std.proofs.lemmas.List.{get_or-reverse, length-map, length-reverse, map-append, reverse-append}
use Rattle.std.specs.List.{flat_map}
use Rattle.std.specs.List.{position_or_len}
use Rattle.std.proofs.lemmas.List.Elements.{All-drop, All-take}
use Rattle.std.proofs.lemmas.List.Sums.{get_or-le-sum_by, position_or_len_is}
use Rattle.dt_front.specs.Picture.{PictureRowForm, bar_width, is_counted, from_first, picture, picture_head, row_line, shown_rows, total_of}

pub position_or_len-map : {X Y : Type 0} (p : Y → Bool) (f : X → Y) (xs : List X) → position_or_len p (map f xs) ≡ position_or_len (λ x. p (f x)) xs
position_or_len-map p f [] = refl
position_or_len-map p f (x ∷ xs) = ap (λ n. cond (not (p (f x))) (1 + n) 0) (position_or_len-map p f xs)

-- each row that is shown counts at most the total
pub shown_within : (rows : List PictureRowForm) → All (λ row. row.count ≤ total_of rows) (shown_rows rows)
shown_within rows =
    All-take (λ row. row.count ≤ total_of rows) _ (from_first rows)
    (All-drop (λ row. row.count ≤ total_of rows) _ rows
    (λ k d within. get_or-le-sum_by (λ row. row.count) rows k d within))

-- The code's rows that are shown are those of their forms.
pub shown_of_code : {X : Type 0} (f : X → PictureRowForm) (xs : List X) (l t : ℕ)
    → l ≡ position_or_len is_counted (map f xs) - 1
    → t ≡ position_or_len is_counted (reverse (map f (take (length xs - l) (drop l xs)))) - 1
    → map f (take (length (take (length xs - l) (drop l xs)) - t) (take (length xs - l) (drop l xs))) ≡ shown_rows (map f xs)
shown_of_code f xs l t leading trailing =
    let whole : take (length xs - l) (drop l xs) ≡ drop l xs = take_all (length xs - l) (drop l xs) (omega (arith, length-drop l xs)) in
    let from : map f (drop l xs) ≡ from_first (map f xs) = sym (drop-map f l xs) ∙ ap (λ n. drop n (map f xs)) leading in
    let last : t ≡ position_or_len is_counted (reverse (from_first (map f xs))) - 1 =
    trailing ∙ ap (λ ys. position_or_len is_counted (reverse (map f ys)) - 1) whole ∙ ap (λ ys. position_or_len is_counted (reverse ys) - 1) from in
    ap (λ ys. map f (take (length ys - t) ys)) whole
    ∙ sym (take-map f (length (drop l xs) - t) (drop l xs))
    ∙ ap (λ n. take (n - t) (map f (drop l xs))) (sym (length-map (drop l xs) f))
    ∙ ap (λ ys. take (length ys - t) ys) from
    ∙ ap (λ n. take (length (from_first (map f xs)) - n) (from_first (map f xs))) last

pub picture_added : (page longest : ℕ) (old begun whole : List ℕ) (rows lines : List PictureRowForm) (total : ℕ)
    → longest ≡ bar_width page → begun ≡ old ++ picture_head longest → whole ≡ begun ++ flat_map (row_line longest total) lines
    → total ≡ total_of rows → lines ≡ shown_rows rows → whole ≡ old ++ picture page rows
picture_added page longest old begun whole rows lines total width head body same shown =
    body ∙ ap (λ xs. xs ++ flat_map (row_line longest total) lines) head
    ∙ append_assoc old (picture_head longest) (flat_map (row_line longest total) lines)
    ∙ ap (λ xs. old ++ (picture_head longest ++ xs))
    (ap (λ n. flat_map (row_line longest n) lines) same ∙ ap (λ ys. flat_map (row_line longest (total_of rows)) ys) shown)
    ∙ ap (λ n. old ++ (picture_head n ++ flat_map (row_line n (total_of rows)) (shown_rows rows))) width

pub map-reverse : {X Y : Type 0} (f : X → Y) (xs : List X) → map f (reverse xs) ≡ reverse (map f xs)
map-reverse f [] = refl
map-reverse f (x ∷ xs) =
    ap (map f) (reverse-append (x ∷ []) xs) ∙ map-append f (reverse xs) (x ∷ []) ∙ ap (λ l. l ++ f x ∷ []) (map-reverse f xs)
    ∙ sym (reverse-append (f x ∷ []) (map f xs))

-- The first place that passes, where the test of each element is known whatever stands for one that is missing.
pub first_place_is : {X : Type 0} (p : X → Bool) (xs : List X) (i : ℕ) → i ≤ length xs
    → ((k : ℕ) (d : X) → k < i → p (get_or xs k d) ≡ false) → ((d : X) → i < length xs → p (get_or xs i d) ≡ true)
    → i ≡ position_or_len p xs
first_place_is p [] i within before at = omega (arith, within)
first_place_is p (x ∷ xs) i within before at = sym (position_or_len_is p (x ∷ xs) i x within (λ k below. before k x below) (at x))

-- The first place from the last back that passes.
pub last_place_is : {X : Type 0} (p : X → Bool) (xs : List X) (i : ℕ) → i ≤ length xs
    → ((k : ℕ) (d : X) → k < i → p (get_or xs (length xs - 1 - k) d) ≡ false)
    → ((d : X) → i < length xs → p (get_or xs (length xs - 1 - i) d) ≡ true)
    → i ≡ position_or_len p (reverse xs)
last_place_is p xs i within before at =
    first_place_is p (reverse xs) i (omega (arith, within, length-reverse xs))
    (λ k d below. ap p (get_or-reverse xs k d (omega (arith, below, within))) ∙ before k d below)
    (λ d inside. let inside-xs : i < length xs = omega (arith, inside, length-reverse xs) in ap p (get_or-reverse xs i d inside-xs) ∙ at d inside-xs)
