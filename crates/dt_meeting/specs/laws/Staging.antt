-- Stages, as a seat's writes go on.
use Rattle.std.proofs.Common.{◌≡◌, ◌≢◌, ◌⊎◌, ◌==◌, ℕ, Bool, true, false, cond, List, [], ◌∷◌, ◌++◌, refl, sym, ap, ◌∙◌, subst, ⊎_elim, inl, inr, append-nil, append_assoc}
use Rattle.std.proofs.lemmas.Bool.{eq-eqb, ne_eqb}
use Rattle.std.proofs.lemmas.List.Sums.{fold-append}
use Rattle.std.specs.Prelude.{fold}
use mathlib.Core.List.{IsPrefix}
use Rattle.dt_chain.specs.Writes.{Write, published, withdrawn}
use Rattle.dt_cred.specs.declared.account.Account.{Account}
use Rattle.dt_meeting.specs.Order.{IsOfOthers}
use Rattle.dt_meeting.specs.Stages.{Stage, named, past, next_stage, never, stage}

past_stays : (life : ℕ) (writes : List Write) → fold (next_stage life) past writes ≡ past
past_stays life [] = refl
past_stays life (write ∷ writes) = past_stays life writes

pub stage_both : (life : ℕ) (writes more : List Write) → stage life (writes ++ more) ≡ fold (next_stage life) (stage life writes) more
stage_both life writes more = fold-append (next_stage life) never writes more

-- a life that is past stays so
pub stage_past : (life : ℕ) (writes more : List Write) → IsPrefix writes more → stage life writes ≡ past → stage life more ≡ past
stage_past life writes more begins is =
    ap (stage life) (sym begins.1) ∙ stage_both life writes begins.0 ∙ ap (λ (s : Stage). fold (next_stage life) s begins.0) is
    ∙ past_stays life begins.0

-- The life was published.
abbrev pub IsBegun : Stage → Type 0
IsBegun never = ⊥
IsBegun (named probes) = Unit {0}
IsBegun past = Unit {0}

begun_either : (b : Bool) (probes : List Bool) → IsBegun (cond b (named probes) past)
begun_either true probes = tt
begun_either false probes = tt

begun_on : (life : ℕ) (s : Stage) (write : Write) → IsBegun s → IsBegun (next_stage life s write)
begun_on life never write begun = absurd begun
begun_on life (named earlier) (published seat other account probes) begun = begun_either (other == life) probes
begun_on life (named earlier) (withdrawn seat) begun = tt
begun_on life past write begun = tt

begun_stays : (life : ℕ) (s : Stage) (writes : List Write) → IsBegun s → IsBegun (fold (next_stage life) s writes)
begun_stays life s [] begun = begun
begun_stays life s (write ∷ writes) begun = begun_stays life (next_stage life s write) writes (begun_on life s write begun)

-- a life that was published stays so
pub stage_begun : (life : ℕ) (writes more : List Write) → IsPrefix writes more → IsBegun (stage life writes) → IsBegun (stage life more)
stage_begun life writes more begins begun =
    subst (λ (l : List Write). IsBegun (stage life l)) begins.1
    (subst IsBegun (sym (stage_both life writes begins.0)) (begun_stays life (stage life writes) begins.0 begun))

-- a life of which no write was a publication
pub never_before : (life : ℕ) (writes more : List Write) → IsPrefix writes more → stage life more ≡ never → stage life writes ≡ never
never_before life writes more begins is = by_case (stage life writes) refl
  where
    no : IsBegun (stage life writes) → ⊥
    no begun = subst IsBegun is (stage_begun life writes more begins begun)

    by_case : (s : Stage) → stage life writes ≡ s → stage life writes ≡ never
    by_case never e = e
    by_case (named probes) e = absurd (no (subst IsBegun (sym e) tt))
    by_case past e = absurd (no (subst IsBegun (sym e) tt))

-- The last write is a publication of the life: it is named by it, unless it was past.
pub named_by_last : (life : ℕ) (writes : List Write) (seat : ℕ) (account : Account) (probes : List Bool)
    → (stage life (writes ++ published seat life account probes ∷ []) ≡ named probes)
    ⊎ ((stage life writes ≡ past) × (stage life (writes ++ published seat life account probes ∷ []) ≡ past))
named_by_last life writes seat account probes = by_case (stage life writes) refl
  where
    last : Stage → Stage
    last s = next_stage life s (published seat life account probes)

    here : life == life ≡ true
    here = eq-eqb life life refl

    both : stage life (writes ++ published seat life account probes ∷ []) ≡ last (stage life writes)
    both = stage_both life writes (published seat life account probes ∷ [])

    by_case : (s : Stage) → stage life writes ≡ s
        → (stage life (writes ++ published seat life account probes ∷ []) ≡ named probes)
        ⊎ ((stage life writes ≡ past) × (stage life (writes ++ published seat life account probes ∷ []) ≡ past))
    by_case never e = inl (both ∙ ap last e ∙ ap (λ (b : Bool). cond b (named probes) never) here)
    by_case (named earlier) e = inl (both ∙ ap last e ∙ ap (λ (b : Bool). cond b (named probes) past) here)
    by_case past e = inr (e, both ∙ ap last e)

-- The last write isn't a publication of the life: it doesn't name it.
pub unnamed_by_last : (life : ℕ) (writes : List Write) (write : Write) (probes : List Bool) → IsOfOthers life write
    → stage life (writes ++ write ∷ []) ≢ named probes
unnamed_by_last life writes write probes others e =
    no (stage life writes) write others (sym (stage_both life writes (write ∷ [])) ∙ e)
  where
    no : (s : Stage) (w : Write) → IsOfOthers life w → next_stage life s w ≢ named probes
    no never (published seat other account found) apart e =
        let bad : never ≡ named probes = sym (ap (λ (b : Bool). cond b (named found) never) (ne_eqb other life apart)) ∙ e in cc bad
    no never (withdrawn seat) apart e = let bad : never ≡ named probes = e in cc bad
    no (named earlier) (published seat other account found) apart e =
        let bad : past ≡ named probes = sym (ap (λ (b : Bool). cond b (named found) past) (ne_eqb other life apart)) ∙ e in cc bad
    no (named earlier) (withdrawn seat) apart e = let bad : past ≡ named probes = e in cc bad
    no past w apart e = let bad : past ≡ named probes = e in cc bad

pub prefix_trans : (xs ys zs : List Write) → IsPrefix xs ys → IsPrefix ys zs → IsPrefix xs zs
prefix_trans xs ys zs a b = (a.0 ++ b.0, sym (append_assoc xs a.0 b.0) ∙ ap (λ (l : List Write). l ++ b.0) a.1 ∙ b.1)

pub prefix_self : (xs : List Write) → IsPrefix xs xs
prefix_self xs = ([], append-nil xs)

-- A beginning of a list with one write more is a beginning of the list, or all.
pub prefix_of_last : (xs ys : List Write) (write : Write) → IsPrefix xs (ys ++ write ∷ []) → IsPrefix xs ys ⊎ (xs ≡ ys ++ write ∷ [])
prefix_of_last [] ys write a = inl (ys, refl)
prefix_of_last (x ∷ []) [] write a = inr (let e : x ∷ a.0 ≡ write ∷ [] = a.1 in cc e)
prefix_of_last (x ∷ z ∷ xs) [] write a = absurd (let e : x ∷ z ∷ (xs ++ a.0) ≡ write ∷ [] = a.1 in cc e)
prefix_of_last (x ∷ xs) (y ∷ ys) write a =
    let e : x ∷ (xs ++ a.0) ≡ y ∷ (ys ++ write ∷ []) = a.1 in
    let head : x ≡ y = cc e in
    ⊎_elim (λ (t : IsPrefix xs ys). inl (t.0, cc (head, t.1)))
    (λ (t : xs ≡ ys ++ write ∷ []). inr (cc (head, t)))
    (prefix_of_last xs ys write (a.0, cc e))

-- two lists that are the same with a last write more
pub front_of : (xs ys : List Write) (x y : Write) → xs ++ x ∷ [] ≡ ys ++ y ∷ [] → xs ≡ ys
front_of [] [] x y e = refl
front_of [] (b ∷ []) x y e = let e1 : x ∷ [] ≡ b ∷ y ∷ [] = e in absurd (cc e1)
front_of [] (b ∷ c ∷ ys) x y e = let e1 : x ∷ [] ≡ b ∷ c ∷ (ys ++ y ∷ []) = e in absurd (cc e1)
front_of (a ∷ []) [] x y e = let e1 : a ∷ x ∷ [] ≡ y ∷ [] = e in absurd (cc e1)
front_of (a ∷ c ∷ xs) [] x y e = let e1 : a ∷ c ∷ (xs ++ x ∷ []) ≡ y ∷ [] = e in absurd (cc e1)
front_of (a ∷ xs) (b ∷ ys) x y e =
    let e1 : a ∷ (xs ++ x ∷ []) ≡ b ∷ (ys ++ y ∷ []) = e in
    let head : a ≡ b = cc e1 in
    let rest : xs ≡ ys = front_of xs ys x y (cc e1) in
    λ i. head i ∷ rest i

-- the last writes of two lists that are the same
pub last_of : (xs ys : List Write) (x y : Write) → xs ++ x ∷ [] ≡ ys ++ y ∷ [] → x ≡ y
last_of [] [] x y e = let e1 : x ∷ [] ≡ y ∷ [] = e in cc e1
last_of [] (b ∷ []) x y e = let e1 : x ∷ [] ≡ b ∷ y ∷ [] = e in absurd (cc e1)
last_of [] (b ∷ c ∷ ys) x y e = let e1 : x ∷ [] ≡ b ∷ c ∷ (ys ++ y ∷ []) = e in absurd (cc e1)
last_of (a ∷ []) [] x y e = let e1 : a ∷ x ∷ [] ≡ y ∷ [] = e in absurd (cc e1)
last_of (a ∷ c ∷ xs) [] x y e = let e1 : a ∷ c ∷ (xs ++ x ∷ []) ≡ y ∷ [] = e in absurd (cc e1)
last_of (a ∷ xs) (b ∷ ys) x y e =
    let e1 : a ∷ (xs ++ x ∷ []) ≡ b ∷ (ys ++ y ∷ []) = e in last_of xs ys x y (cc e1)
