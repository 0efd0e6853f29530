-- How many bytes the records of END's ECBs have.
use Rattle.std.proofs.Common.{◌≡◌, ℕ, zero, suc, ◌+◌, ◌<◌, ◌≤◌, ◌==◌, get_or, take, Bool, true, false, List, [], ◌∷◌}
use Rattle.std.proofs.Common.{length, map, sum, if◌then◌else◌, sym, ap, ◌∙◌, arith}
use Rattle.std.proofs.lemmas.List.Sums.{sum-map, sum_by-cons}
use Rattle.dt_ecb.specs.Ecbs.{EcbForm, of_probe}
use Rattle.dt_ecb.specs.Forms.{form_of_ecb}
use Rattle.dt_ecb.specs.declared.parts.Ecb.{Ecb}
use Rattle.dt_lang.specs.Program.{ClauseForm}
use Rattle.dt_life.specs.Life.{attempt_size}
use Rattle.dt_life.specs.Limits.{end_id}

abbrev pub size_by : EcbForm → ℕ
size_by ecb = attempt_size ecb.clause

-- the bytes of the records of END's among ECBs, one of each that attempts one
abbrev pub end_sizes : List ClauseForm → List Ecb → ℕ
end_sizes clauses ecbs = sum (map size_by (of_probe end_id (map (form_of_ecb clauses) ecbs)))

picked_sum : (b : Bool) (x : EcbForm) (xs : List EcbForm)
    → sum (map size_by (if b then x ∷ xs else xs)) ≡ (if b then size_by x else 0) + sum (map size_by xs)
picked_sum true x xs =
    sum-map size_by (x ∷ xs) ∙ sum_by-cons size_by x xs ∙ ap (λ n. size_by x + n) (sym (sum-map size_by xs))
picked_sum false x xs = omega arith

abbrev pub one_size : List ClauseForm → Ecb → ℕ
one_size clauses ecb = if ecb.probe == end_id then size_by (form_of_ecb clauses ecb) else 0

sizes_first : (clauses : List ClauseForm) (ecb : Ecb) (ecbs : List Ecb)
    → end_sizes clauses (ecb ∷ ecbs) ≡ one_size clauses ecb + end_sizes clauses ecbs
sizes_first clauses ecb ecbs =
    picked_sum (ecb.probe == end_id) (form_of_ecb clauses ecb) (of_probe end_id (map (form_of_ecb clauses) ecbs))

-- those of the first ECBs, and of one more
pub sizes_more : (clauses : List ClauseForm) (ecbs : List Ecb) (i : ℕ) (ecb : Ecb) → i < length ecbs
    → ecb ≡ get_or ecbs i ecb
    → end_sizes clauses (take (i + 1) ecbs) ≡ end_sizes clauses (take i ecbs) + one_size clauses ecb
sizes_more clauses [] i ecb inside is = absurd (omega arith)
sizes_more clauses (first ∷ ecbs) zero ecb inside is =
    omega (arith, sizes_first clauses first [], ap (one_size clauses) is)
sizes_more clauses (first ∷ ecbs) (suc i) ecb inside is =
    ap (λ k. end_sizes clauses (take k (first ∷ ecbs))) (shift i)
    ∙ omega (
      arith,
      sizes_first clauses first (take (i + 1) ecbs),
      sizes_first clauses first (take i ecbs),
      sizes_more clauses ecbs i ecb (omega arith) is,
    )
  where
    shift : (i : ℕ) → suc i + 1 ≡ suc (i + 1)
    shift i = omega arith

pub sizes_few : (clauses : List ClauseForm) (ecbs : List Ecb) (i : ℕ)
    → end_sizes clauses (take i ecbs) ≤ end_sizes clauses ecbs
sizes_few clauses [] zero = omega arith
sizes_few clauses [] (suc i) = omega arith
sizes_few clauses (ecb ∷ ecbs) zero = omega arith
sizes_few clauses (ecb ∷ ecbs) (suc i) = omega (
  arith,
  sizes_first clauses ecb (take i ecbs),
  sizes_first clauses ecb ecbs,
  sizes_few clauses ecbs i,
)
