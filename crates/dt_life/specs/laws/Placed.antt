use Rattle.std.proofs.Common.{◌≡◌, ℕ, zero, suc, ◌+◌, ◌<◌, ◌==◌, List, [], ◌∷◌, Some, length, map, refl, sym, ap, ◌∙◌}
use Rattle.std.proofs.Common.{subst, arith, ◌≤◌, ◌++◌, get_or}
use Rattle.std.specs.List.{find, AllByRecursion, All}
use Rattle.std.proofs.lemmas.Bool.{eqb-true}
use Rattle.std.proofs.lemmas.List.Elements.{recursion_from_All, All-from_recursion}
use Rattle.dt_ecb.specs.Ecbs.{EcbForm}
use Rattle.dt_ecb.specs.Forms.{form_of_ecb, no_clause}
use Rattle.dt_ecb.specs.declared.parts.Ecb.{Ecb}
use Rattle.dt_life.specs.laws.Lists.{find_passes}
use Rattle.std.proofs.lemmas.List.{length-append, map-append}
use Rattle.dt_lang.specs.Program.{ClauseForm}
use Rattle.dt_life.specs.Placed.{AreEcbs, placed_after}

pub number_found : (epid : ℕ) (ecbs : List Ecb) (ecb : Ecb) → Some ecb ≡ find (λ (e : Ecb). e.epid == epid) ecbs
    → ecb.epid ≡ epid
number_found epid ecbs ecb is =
    eqb-true ecb.epid epid (find_passes (λ (e : Ecb). e.epid == epid) ecbs ecb (sym is))

-- an ECB keeps its clause where others stand behind or before it
back_added : {X : Type 0} (xs ys : List X) (i : ℕ) (d : X) → i < length xs → get_or (xs ++ ys) i d ≡ get_or xs i d
back_added [] ys i d h = absurd (omega arith)
back_added (x ∷ xs) ys zero d h = refl
back_added (x ∷ xs) ys (suc i) d h = back_added xs ys i d (omega arith)

front_added : {X : Type 0} (xs ys : List X) (n i : ℕ) (d : X) → n ≡ length xs
    → get_or (xs ++ ys) (n + i) d ≡ get_or ys i d
front_added [] ys n i d e = ap (λ k. get_or ys k d) (omega arith)
front_added (x ∷ xs) ys zero i d e = absurd (omega arith)
front_added (x ∷ xs) ys (suc n) i d e =
    ap (λ k. get_or (x ∷ (xs ++ ys)) k d) (shift n i) ∙ front_added xs ys n i d (omega arith)
  where
    shift : (n i : ℕ) → suc n + i ≡ suc (n + i)
    shift n i = omega arith

abbrev AllBelow : ℕ → List Ecb → Type 0
AllBelow n ecbs = AllByRecursion (λ (ecb : Ecb). ecb.clause < n) ecbs

old_forms : (own more : List ClauseForm) (ecbs : List Ecb) → AllBelow (length own) ecbs
    → map (form_of_ecb (own ++ more)) ecbs ≡ map (form_of_ecb own) ecbs
old_forms own more [] h = refl
old_forms own more (ecb ∷ ecbs) h =
    ap
    (λ c. record { epid = ecb.epid; probe = ecb.probe; clause = c } ∷ map (form_of_ecb (own ++ more)) ecbs)
    (back_added own more ecb.clause no_clause h.0)
    ∙ ap (λ es. form_of_ecb own ecb ∷ es) (old_forms own more ecbs h.1)

new_forms : (own more : List ClauseForm) (n : ℕ) (ecbs : List Ecb) → n ≡ length own
    → map (form_of_ecb (own ++ more)) (map (placed_after n) ecbs) ≡ map (form_of_ecb more) ecbs
new_forms own more n [] e = refl
new_forms own more n (ecb ∷ ecbs) e =
    ap
    (λ c. record { epid = ecb.epid; probe = ecb.probe; clause = c }
    ∷ map (form_of_ecb (own ++ more)) (map (placed_after n) ecbs))
    (front_added own more n ecb.clause no_clause e)
    ∙ ap (λ es. form_of_ecb more ecb ∷ es) (new_forms own more n ecbs e)

old_placed : (n m : ℕ) (ecbs : List Ecb) → n ≤ m → AllBelow n ecbs → AllBelow m ecbs
old_placed n m [] h all = tt
old_placed n m (ecb ∷ ecbs) h all = (omega (arith, all.0), old_placed n m ecbs h all.1)

new_placed : (n k m : ℕ) (ecbs : List Ecb) → n + k ≤ m → AllBelow k ecbs → AllBelow m (map (placed_after n) ecbs)
new_placed n k m [] h all = tt
new_placed n k m (ecb ∷ ecbs) h all = (omega (arith, all.0), new_placed n k m ecbs h all.1)

both_placed : (n : ℕ) (xs ys : List Ecb) → AllBelow n xs → AllBelow n ys → AllBelow n (xs ++ ys)
both_placed n [] ys h k = k
both_placed n (x ∷ xs) ys h k = (h.0, both_placed n xs ys h.1 k)

-- the ECBs of a program, placed behind a consumer's own
pub are_placed : (own more : List ClauseForm) (wanted : List EcbForm) (n : ℕ) (ecbs placed : List Ecb)
    → n ≡ length own
    → AreEcbs more wanted ecbs → placed ≡ map (placed_after n) ecbs → AreEcbs (own ++ more) wanted placed
are_placed own more wanted n ecbs placed e h is = record {
  forms = ap (map (form_of_ecb (own ++ more))) is ∙ new_forms own more n ecbs e ∙ h.forms;
  placed =
      let P : List Ecb → Type 0 = λ xs. All (λ (ecb : Ecb). ecb.clause < length (own ++ more)) xs in
      subst P (sym is)
      (All-from_recursion _ (map (placed_after n) ecbs)
      (new_placed n (length more) (length (own ++ more)) ecbs (omega (arith, e, length-append own more))
      (recursion_from_All _ ecbs h.placed)));
}

pub are_both : (own more : List ClauseForm) (wanted new : List EcbForm) (xs ys : List Ecb) → AreEcbs own wanted xs
    → AreEcbs (own ++ more) new ys → AreEcbs (own ++ more) (wanted ++ new) (xs ++ ys)
are_both own more wanted new xs ys h k =
    let old = recursion_from_All (λ (ecb : Ecb). ecb.clause < length own) xs h.placed in
    record {
      forms =
          map-append (form_of_ecb (own ++ more)) xs ys
          ∙ ap (λ es. es ++ map (form_of_ecb (own ++ more)) ys) (old_forms own more xs old ∙ h.forms)
          ∙ ap (λ es. wanted ++ es) k.forms;
      placed =
          All-from_recursion _ (xs ++ ys)
          (both_placed (length (own ++ more)) xs ys
          (old_placed (length own) (length (own ++ more)) xs (omega (arith, length-append own more)) old)
          (recursion_from_All _ ys k.placed));
    }
