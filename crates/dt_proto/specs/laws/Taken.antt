-- A piece of input of which some more was taken.
use Rattle.std.proofs.Common.{◌≡◌, ℕ, ◌-◌, List, ◌++◌, take, drop, length, sym, ap, ◌∙◌, append_assoc}
use Rattle.std.proofs.Math.Seq.{take-length}
use Rattle.std.proofs.lemmas.List.{length-drop, take-append-drop}

-- what is left of it, as a slice has it
pub left_of_piece : (piece taken rest : List ℕ) (used : ℕ) → piece ≡ taken ++ rest
    → piece ≡ (taken ++ take used rest) ++ take (length rest - used) (drop used rest)
left_of_piece piece taken rest used is =
    is ∙ ap (λ more. taken ++ more) (sym (take-append-drop used rest))
    ∙ sym (append_assoc taken (take used rest) (drop used rest))
    ∙ ap (λ more. (taken ++ take used rest) ++ more)
    (sym (ap (λ n. take n (drop used rest)) (sym (length-drop used rest)) ∙ take-length (drop used rest)))
