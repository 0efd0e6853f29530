-- The ECBs of each probe among the first of a consumer's.
use Rattle.std.proofs.Common.{◌≡◌, ◌≢◌, ◌==◌, ℕ, ◌+◌, ◌<◌, ◌≤◌, Bool, true, false, cond, suc, List, [], ◌∷◌, ◌++◌, Option, Some, None}
use Rattle.std.proofs.Common.{filter, take, length, get_or, slice_get, set, IfSome, refl, sym, ap, ◌∙◌, ⊎_elim, arith}
use Rattle.std.proofs.lemmas.Bool.{cases_lt, eq-eqb, ne_eqb}
use Rattle.std.proofs.lemmas.List.{append-nil}
use Rattle.std.proofs.lemmas.List.Elements.{filter_more}
use Rattle.dt_ecb.specs.declared.parts.Ecb.{Ecb}
use Rattle.dt_consumer.specs.declared.ecb_lists.EcbList.{EcbList}
use Rattle.dt_life.specs.laws.Lists.{found_at, nothing_past, replaced}

abbrev pub IsOf : List Ecb → ℕ → EcbList → Type 0
IsOf ecbs probe list = list.ecbs.items ≡ filter (λ ecb. ecb.probe == probe) ecbs

some_too : {X : Type 0} (P Q : X → Type 0) (o : Option X) → ((x : X) → P x → Q x) → IfSome o P → IfSome o Q
some_too P Q None f h = tt
some_too P Q (Some x) f h = f x h

module _ (ecbs : List Ecb) (i : ℕ) (ecb : Ecb) (inside : i < length ecbs) (is : ecb ≡ get_or ecbs i ecb) where
  more : (probe : ℕ) → filter (λ e. e.probe == probe) (take (i + 1) ecbs)
      ≡ filter (λ e. e.probe == probe) (take i ecbs) ++ cond (ecb.probe == probe) (ecb ∷ []) []
  more probe =
      filter_more (λ e. e.probe == probe) ecbs i ecb inside
      ∙ ap (λ (e : Ecb). filter (λ x. x.probe == probe) (take i ecbs) ++ cond (e.probe == probe) (e ∷ []) []) (sym is)

  -- another probe's stay as they are
  same : (probe : ℕ) → ecb.probe ≢ probe → (list : EcbList) → IsOf (take i ecbs) probe list
      → IsOf (take (i + 1) ecbs) probe list
  same probe other list h =
      h ∙ sym (more probe
      ∙ ap (λ b. filter (λ x. x.probe == probe) (take i ecbs) ++ cond b (ecb ∷ []) []) (ne_eqb ecb.probe probe other)
      ∙ append-nil (filter (λ x. x.probe == probe) (take i ecbs)))

  -- its own probe's are one more
  pub listed_more : (lists : List EcbList) (old new : EcbList) → ecb.probe < length lists
      → old ≡ get_or lists ecb.probe old
      → new.ecbs.items ≡ old.ecbs.items ++ ecb ∷ []
      → ((probe : ℕ) → IfSome (slice_get lists probe) (IsOf (take i ecbs) probe))
      → (probe : ℕ) → IfSome (slice_get (set lists ecb.probe new) probe) (IsOf (take (i + 1) ecbs) probe)
  listed_more lists old new within read pushed before =
      let own = found_at (IsOf (take i ecbs) ecb.probe) lists ecb.probe old within read (before ecb.probe) in
      replaced (IsOf (take (i + 1) ecbs)) lists ecb.probe new
      (pushed ∙ ap (λ xs. xs ++ ecb ∷ []) own
      ∙ sym (more ecb.probe
      ∙ ap (λ b. filter (λ x. x.probe == ecb.probe) (take i ecbs) ++ cond b (ecb ∷ []) []) (eq-eqb ecb.probe ecb.probe refl)))
      (λ j ne. some_too (IsOf (take i ecbs) j) (IsOf (take (i + 1) ecbs) j) (slice_get lists j)
      (same j (λ e. ne (sym e))) (before j))

  -- a probe that has no list changes nothing
  pub listed_nowhere : (lists : List EcbList) → length lists ≤ ecb.probe
      → ((probe : ℕ) → IfSome (slice_get lists probe) (IsOf (take i ecbs) probe))
      → (probe : ℕ) → IfSome (slice_get lists probe) (IsOf (take (i + 1) ecbs) probe)
  listed_nowhere lists far before probe =
      ⊎_elim
      (λ (low : probe < length lists).
      some_too (IsOf (take i ecbs) probe) (IsOf (take (i + 1) ecbs) probe) (slice_get lists probe)
      (same probe (λ e. absurd (omega (arith, low, far, e)))) (before probe))
      (λ (past : length lists ≤ probe). nothing_past (IsOf (take (i + 1) ecbs) probe) lists probe past)
      (cases_lt probe (length lists))

few_kept : (b : Bool) (x : Ecb) (xs : List Ecb) (n : ℕ) → length xs ≤ n → length (cond b (x ∷ xs) xs) ≤ suc n
few_kept true x xs n h = omega arith
few_kept false x xs n h = omega arith

pub few_filtered : (p : Ecb → Bool) (xs : List Ecb) → length (filter p xs) ≤ length xs
few_filtered p [] = omega arith
few_filtered p (x ∷ xs) = few_kept (p x) x (filter p xs) (length xs) (few_filtered p xs)
