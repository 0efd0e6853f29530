-- ECBs by the places of their clauses are those of the definition, and those of programs go on from one another.
use Rattle.std.proofs.Common.{◌≡◌, ℕ, suc, ◌+◌, List, [], ◌∷◌, ◌++◌, length, get_or, map, refl, sym, ap, ◌∙◌, arith}
use Rattle.std.specs.List.{enumerate_from}
use Rattle.std.proofs.lemmas.List.{append_assoc, length-append, length-map, map-append}
use Rattle.std.proofs.lemmas.List.Concat.{flat_map-append}
use Rattle.std.proofs.lemmas.List.FromFn.{length-enumerate_from}
use Rattle.std.proofs.Math.Seq.{get_or-append_seam}
use Rattle.dt_cred.specs.declared.account.Account.{Account}
use Rattle.dt_cred.specs.declared.probe.Probe.{Probe}
use Rattle.dt_machine.specs.Registry.{Registry}
use Rattle.dt_program.specs.Program.{ClauseForm}
use Rattle.dt_ecb.specs.Matching.{matched}
use Rattle.dt_ecb.specs.Ecbs.{EcbForm, numbered, pairs_of_clause, pairs_of, added, ecbs_of}
use Rattle.dt_ecb.specs.Forms.{form_of_ecb, no_clause}
use Rattle.dt_ecb.specs.Places.{kept_in, kept_from, keys_at, keys_from}
use Rattle.dt_ecb.specs.declared.parts.Ecb.{Ecb}

pub enumerate_from-append : {X : Type 0} (n : ℕ) (xs ys : List X)
    → enumerate_from n (xs ++ ys) ≡ enumerate_from n xs ++ enumerate_from (n + length xs) ys
enumerate_from-append n [] ys = ap (λ m. enumerate_from m ys) (omega arith)
enumerate_from-append n (x ∷ xs) ys =
    ap (λ rest. (n, x) ∷ rest)
    (enumerate_from-append (n + 1) xs ys
    ∙ ap (λ m. enumerate_from (n + 1) xs ++ enumerate_from m ys) (shift n (length xs)))
  where
    shift : (n m : ℕ) → n + 1 + m ≡ n + suc m
    shift n m = omega arith

-- an ECB's pair
abbrev pair_at : List ClauseForm → ℕ × ℕ → ℕ × ClauseForm
pair_at clauses key = (key.0, get_or clauses key.1 no_clause)

-- an ECB of these clauses, by what it keeps
abbrev form_at : List ClauseForm → ℕ × (ℕ × ℕ) → EcbForm
form_at clauses kept = record { epid = kept.0; probe = kept.1.0; clause = get_or clauses kept.1.1 no_clause }

forms_by_kept : (clauses : List ClauseForm) (ecbs : List Ecb)
    → map (form_of_ecb clauses) ecbs ≡ map (form_at clauses) (map kept_in ecbs)
forms_by_kept clauses [] = refl
forms_by_kept clauses (ecb ∷ ecbs) = ap (λ rest. form_of_ecb clauses ecb ∷ rest) (forms_by_kept clauses ecbs)

same_ecbs : (clauses : List ClauseForm) (n : ℕ) (keys : List (ℕ × ℕ))
    → map (form_at clauses) (kept_from n keys) ≡ map numbered (enumerate_from n (map (pair_at clauses) keys))
same_ecbs clauses n [] = refl
same_ecbs clauses n (key ∷ keys) =
    ap (λ rest. form_at clauses (n, key) ∷ rest) (same_ecbs clauses (n + 1) keys)

longer : (front : List ClauseForm) (clause : ClauseForm) → length (front ++ clause ∷ []) ≡ length front + 1
longer front clause = omega (arith, length-append front (clause ∷ []))

module _ (account : Account) (registry : Registry) where
  abbrev keys : ℕ → List ClauseForm → List (ℕ × ℕ)
  keys = keys_from account registry

  at_place : (clauses : List ClauseForm) (place : ℕ) (clause : ClauseForm) (probes : List Probe)
      → get_or clauses place no_clause ≡ clause
      → map (λ (probe : Probe). (probe.id, clause)) probes
      ≡ map (pair_at clauses) (map (λ (probe : Probe). (probe.id, place)) probes)
  at_place clauses place clause [] e = refl
  at_place clauses place clause (probe ∷ probes) e =
      ap (λ c. (probe.id, c) ∷ map (λ (p : Probe). (p.id, clause)) probes) (sym e)
      ∙ ap (λ rest. (probe.id, get_or clauses place no_clause) ∷ rest) (at_place clauses place clause probes e)

  pairs-from : (front back : List ClauseForm)
      → pairs_of account registry back ≡ map (pair_at (front ++ back)) (keys (length front) back)
  pairs-from front [] = refl
  pairs-from front (clause ∷ back) =
      let pair = pair_at (front ++ clause ∷ back) in
      let here = keys_at account registry (length front) clause in
      let made = matched account registry clause in
      let next : pairs_of account registry back
      ≡ map (pair_at (front ++ clause ∷ back)) (keys (length front + 1) back) =
      pairs-from (front ++ clause ∷ []) back
      ∙ ap
      (λ all. map (pair_at all) (keys (length (front ++ clause ∷ [])) back))
      (append_assoc front (clause ∷ []) back)
      ∙ ap (λ p. map (pair_at (front ++ clause ∷ back)) (keys p back)) (longer front clause) in
      ap
      (λ pairs. pairs ++ pairs_of account registry back)
      (at_place (front ++ clause ∷ back) (length front) clause made
      (get_or-append_seam front clause back no_clause))
      ∙ ap (λ pairs. map pair here ++ pairs) next
      ∙ sym (map-append pair here (keys (length front + 1) back))

  -- the ECBs that the walk makes are the definition's
  pub added_by_keys : (epid : ℕ) (clauses : List ClauseForm) (ecbs : List Ecb)
      → map kept_in ecbs ≡ kept_from epid (keys 0 clauses)
      → map (form_of_ecb clauses) ecbs ≡ added account registry epid clauses
  added_by_keys epid clauses ecbs made =
      forms_by_kept clauses ecbs
      ∙ ap (map (form_at clauses)) made
      ∙ same_ecbs clauses epid (keys 0 clauses)
      ∙ ap (λ pairs. map numbered (enumerate_from epid pairs)) (sym (pairs-from [] clauses))

  pub length-added : (epid : ℕ) (clauses : List ClauseForm)
      → length (added account registry epid clauses) ≡ length (pairs_of account registry clauses)
  length-added epid clauses =
      length-map (enumerate_from epid (pairs_of account registry clauses)) numbered
      ∙ length-enumerate_from epid (pairs_of account registry clauses)

  -- programs one after another
  pub going_on : (before clauses : List ClauseForm)
      → ecbs_of account registry (before ++ clauses)
      ≡ ecbs_of account registry before
      ++ added account registry (length (ecbs_of account registry before) + 1) clauses
  going_on before clauses =
      let pairs = pairs_of account registry before in
      let more = pairs_of account registry clauses in
      let next : 1 + length (pairs_of account registry before) ≡ length (ecbs_of account registry before) + 1 =
      omega (arith, length-added 1 before) in
      ap
      (λ all. map numbered (enumerate_from 1 all))
      (flat_map-append (pairs_of_clause account registry) before clauses)
      ∙ ap (map numbered) (enumerate_from-append 1 pairs more)
      ∙ map-append numbered (enumerate_from 1 pairs) (enumerate_from (1 + length pairs) more)
      ∙ ap (λ n. map numbered (enumerate_from 1 pairs) ++ map numbered (enumerate_from n more)) next
