-- The probes that ECBs name.
use Rattle.std.proofs.Common.{◌≡◌, ◌≢◌, ◌↔◌, ℕ, ◌+◌, ◌<◌, ◌==◌, Bool, true, false, IsTrue, cond, List, [], ◌∷◌, ◌++◌, length}
use Rattle.std.proofs.Common.{get_or, take, map, filter, refl, sym, ap, ◌∙◌}
use Rattle.std.proofs.lemmas.Bool.{eqb-true, eqb-false, eq-eqb, ne_eqb, false≢true}
use Rattle.std.proofs.lemmas.List.{append-nil}
use Rattle.std.proofs.lemmas.List.Elements.{filter_more}
use Rattle.dt_machine.specs.Interest.{has_probe}
use Rattle.dt_machine.specs.declared.interest.Interest.{Interest}
use Rattle.dt_lang.specs.Program.{ClauseForm}
use Rattle.dt_ecb.specs.Ecbs.{EcbForm, of_probe}
use Rattle.dt_ecb.specs.Forms.{form_of_ecb}
use Rattle.dt_ecb.specs.declared.parts.Ecb.{Ecb}
use Rattle.dt_life.specs.Placed.{AreEcbs}
use Rattle.dt_life.specs.laws.Lists.{filter-map}

-- the ECBs of a probe
abbrev pub naming : ℕ → List Ecb → List Ecb
naming id ecbs = filter (λ (ecb : Ecb). ecb.probe == id) ecbs

-- the set has the probes of these ECBs
abbrev pub HasProbes : Interest → List Ecb → Type 0
HasProbes interest ecbs = (id : ℕ) → (IsTrue (has_probe interest id) ↔ (naming id ecbs ≢ []))

-- of no ECBs
pub has_none : (interest : Interest) → ((id : ℕ) → has_probe interest id ≡ false) → HasProbes interest []
has_none interest none = λ id. (λ named. absurd (false≢true (sym (none id) ∙ named)), λ some. absurd (some refl))

not_empty : {X : Type 0} (xs : List X) (x : X) → xs ++ x ∷ [] ≡ [] → ⊥
not_empty [] x e = cc
not_empty (y ∷ xs) x e = cc

map_none : {X Y : Type 0} (f : X → Y) (xs : List X) → map f xs ≡ [] → xs ≡ []
map_none f [] e = refl
map_none f (x ∷ xs) e = cc

-- of one ECB more, whose probe was taken in
module _ (old new : Interest) (ecbs : List Ecb) (i : ℕ) (ecb : Ecb) (inside : i < length ecbs)
    (is : ecb ≡ get_or ecbs i ecb)
    (taken : (other : ℕ) → has_probe new other ≡ cond (other == ecb.probe) true (has_probe old other))
    (before : HasProbes old (take i ecbs)) where
  grown : (id : ℕ) (b : Bool) → (ecb.probe == id) ≡ b
      → naming id (take (i + 1) ecbs) ≡ naming id (take i ecbs) ++ cond b (ecb ∷ []) []
  grown id b e =
      filter_more (λ (one : Ecb). one.probe == id) ecbs i ecb inside
      ∙ ap (λ (one : Ecb). naming id (take i ecbs) ++ cond (one.probe == id) (one ∷ []) []) (sym is)
      ∙ ap (λ c. naming id (take i ecbs) ++ cond c (ecb ∷ []) []) e

  more_at : (id : ℕ) (b : Bool) → (ecb.probe == id) ≡ b
      → (IsTrue (has_probe new id) ↔ (naming id (take (i + 1) ecbs) ≢ []))
  more_at id true e =
      let own : id ≡ ecb.probe = sym (eqb-true ecb.probe id e) in (
        λ named empty. not_empty (naming id (take i ecbs)) ecb (sym (grown id true e) ∙ empty),
        λ some. taken id ∙ ap (λ b. cond b true (has_probe old id)) (eq-eqb id ecb.probe own),
      )
  more_at id false e =
      let same = grown id false e ∙ append-nil (naming id (take i ecbs)) in
      let kept : has_probe new id ≡ has_probe old id =
      taken id ∙ ap (λ b. cond b true (has_probe old id)) (ne_eqb id ecb.probe (λ known. eqb-false ecb.probe id e (sym known))) in (
        λ named empty. (before id).0 (sym kept ∙ named) (sym same ∙ empty),
        λ some. kept ∙ (before id).1 (λ empty. some (same ∙ empty)),
      )

  pub has_more : HasProbes new (take (i + 1) ecbs)
  has_more = λ id. more_at id (ecb.probe == id) refl

-- the ECBs are kept of these forms
pub has_forms : (clauses : List ClauseForm) (wanted : List EcbForm) (kept : List Ecb) → AreEcbs clauses wanted kept
    → (interest : Interest) → HasProbes interest kept
    → (id : ℕ) → (IsTrue (has_probe interest id) ↔ (of_probe id wanted ≢ []))
has_forms clauses wanted kept are interest has = λ id.
    let is : of_probe id wanted ≡ map (form_of_ecb clauses) (naming id kept) =
    ap (of_probe id) (sym are.forms)
    ∙ filter-map (form_of_ecb clauses) (λ (one : EcbForm). one.probe == id) kept in (
      λ named empty. (has id).0 named (map_none (form_of_ecb clauses) (naming id kept) (sym is ∙ empty)),
      λ some. (has id).1 (λ empty. some (is ∙ ap (map (form_of_ecb clauses)) empty)),
    )
