-- The last four of some fields, as each further field shifts them.
use Rattle.std.proofs.Common.{◌≡◌, ℕ, zero, suc, ◌+◌, ◌-◌, ◌≤◌, List, [], ◌∷◌, ◌++◌, length, drop, replicate, refl, sym}
use Rattle.std.proofs.Common.{ap, ◌∙◌, map, count_by, add-one, arith}
use Rattle.std.proofs.lemmas.List.Splits.{length-slice_split}
use Rattle.dt_names.specs.Desc.{is_colon, fields}
use Rattle.std.proofs.lemmas.List.{drop-append-le, drop-replicate, length-map, map-append, length_push}

drop_one_more : {X : Type 0} (n : ℕ) (zs : List X) → drop (suc n) zs ≡ drop 1 (drop n zs)
drop_one_more zero zs = refl
drop_one_more (suc n) [] = refl
drop_one_more (suc n) (z ∷ zs) = drop_one_more n zs

pub shift_in : {X : Type 0} (zs : List X) (n : ℕ) (a b c d x : X) → n ≤ length zs → a ∷ b ∷ c ∷ d ∷ [] ≡ drop n zs
    → b ∷ c ∷ d ∷ x ∷ [] ≡ drop (suc n) (zs ++ x ∷ [])
shift_in zs n a b c d x fits h =
    ap (λ ys. drop 1 (ys ++ x ∷ [])) h
    ∙ ap (drop 1) (sym (drop-append-le n zs (x ∷ []) fits))
    ∙ sym (drop_one_more n (zs ++ x ∷ []))

-- at most four fields are all there, after empty ones
pub aligned_few : (parts : List (List ℕ)) → length parts ≤ 4 → drop (length parts) (replicate 4 [] ++ parts)
    ≡ replicate (4 - length parts) [] ++ parts
aligned_few parts few =
    drop-append-le (length parts) (replicate 4 []) parts few
    ∙ ap (λ front. front ++ parts) (drop-replicate (length parts) 4 [])

pub turn : {X : Type 0} (now : X → List ℕ) (xs : List X) (x : X) (a b c d : List ℕ) → a ∷ b ∷ c ∷ d ∷ []
    ≡ drop (length xs) (replicate 4 [] ++ map now xs) → b ∷ c ∷ d ∷ now x ∷ []
    ≡ drop (length (xs ++ x ∷ [])) (replicate 4 [] ++ map now (xs ++ x ∷ []))
turn now xs x a b c d h =
    shift_in (replicate 4 [] ++ map now xs) (length xs) a b c d (now x) (omega (arith, length-map xs now)) h
    ∙ sym (ap (λ n. drop n (replicate 4 [] ++ map now (xs ++ x ∷ []))) (length_push xs x ∙ add-one (length xs))
    ∙ ap (λ ys. drop (suc (length xs)) (replicate 4 [] ++ ys)) (map-append now xs (x ∷ [])))

pub finished : (ys parts : List (List ℕ)) (n : ℕ) (front : List (List ℕ)) → front ≡ drop n (replicate 4 [] ++ ys) → ys
    ≡ parts → n ≡ length parts → front ≡ drop (length parts) (replicate 4 [] ++ parts)
finished ys parts n front h e m =
    h ∙ ap (λ k. drop k (replicate 4 [] ++ ys)) m ∙ ap (λ zs. drop (length parts) (replicate 4 [] ++ zs)) e

-- three colons make four fields
pub four_fields : (text : List ℕ) (front : List (List ℕ)) → count_by is_colon text ≡ 3 → front
    ≡ drop (length (fields text)) (replicate 4 [] ++ fields text) → fields text ≡ front
four_fields text front colons h =
    let four : length (fields text) ≡ 4 = length-slice_split is_colon text ∙ ap (λ n. n + 1) colons in
    sym (h ∙ ap (λ n. drop n (replicate 4 [] ++ fields text)) four)

pub colons_of : (text a b c d : List ℕ) → fields text ≡ a ∷ b ∷ c ∷ d ∷ [] → count_by is_colon text ≡ 3
colons_of text a b c d h = omega (arith, length-slice_split is_colon text, ap length h)
