-- Numbers that are written one by one into an array of zeros.
use Rattle.std.proofs.Common.{◌≡◌, ◌+◌, ◌-◌, ◌<◌, ℕ, suc, [], ◌∷◌, ◌++◌, List, Option, Some, None, IsSome, All, map}
use Rattle.std.proofs.Common.{take, set, replicate, slice_get, length, get_or, append_assoc, refl, sym, ap, ◌∙◌, subst}
use Rattle.std.proofs.Common.{arith}
use Rattle.std.proofs.Math.Seq.{set-append_seam}
use Rattle.std.proofs.lemmas.List.{length-map}
use Rattle.std.proofs.lemmas.List.Elements.{All-push}
use Rattle.std.proofs.lemmas.Option.{slice_get_within, get_or_from_slice_get}
use Rattle.dt_machine.specs.laws.Scripts.{length-front}
use Rattle.dt_machine.proofs.Searching.{map_next, take_next}

pub pad_step : {A B : Type 0} (f : A → B) (rows : List A) (i n : ℕ) (row : A) (zero : B) (xs : List B)
    → slice_get rows i ≡ Some row → i < n → xs ≡ map f (take i rows) ++ replicate (n - i) zero
    → set xs i (f row) ≡ map f (take (i + 1) rows) ++ replicate (n - (i + 1)) zero
pad_step f rows i n row zero xs there room is =
    let front = map f (take i rows) in
    let rest = replicate (n - (i + 1)) zero in
    let counted : length front ≡ i = length-map (take i rows) f ∙ length-front rows i row there in
    let left : n - i ≡ suc (n - (i + 1)) = omega arith in
    let opened : xs ≡ front ++ zero ∷ rest = is ∙ ap (λ k. front ++ replicate k zero) left in
    ap (λ ys. set ys i (f row)) opened ∙ ap (λ k. set (front ++ zero ∷ rest) k (f row)) (sym counted)
    ∙ set-append_seam front zero rest (f row)
    ∙ sym (append_assoc front (f row ∷ []) rest) ∙ ap (λ ys. ys ++ rest) (map_next f rows i row front there refl)

pub some_step : {A : Type 0} (rows : List (Option A)) (i : ℕ) (x : A) → slice_get rows i ≡ Some (Some x)
    → All IsSome (take i rows) → All IsSome (take (i + 1) rows)
some_step {A} rows i x there each =
    let P : List (Option A) → Type 0 = All IsSome in
    subst P (sym (take_next rows i (Some x) there)) (All-push IsSome (take i rows) (Some x) each refl)

no_some : {A : Type 0} (o : Option A) → o ≡ None → IsSome o → ⊥
no_some None e h = cc
no_some (Some x) e h = cc

pub none_there : {A : Type 0} (rows : List (Option A)) (i : ℕ) → slice_get rows i ≡ Some None → All IsSome rows → ⊥
none_there rows i there each =
    let inside = slice_get_within rows i None there in
    no_some (get_or rows i None) (get_or_from_slice_get rows i None None there) (each i None inside)
