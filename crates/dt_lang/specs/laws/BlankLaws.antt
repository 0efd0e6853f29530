-- What stands after the blanks: one rest, and only one.
use Rattle.std.proofs.Common.{◌≡◌, ◌≢◌, ℕ, zero, suc, ◌<◌, ◌≤◌, ◌⊎◌, inl, inr, false, eqb, IsTrue, List, [], ◌∷◌, ◌++◌}
use Rattle.std.proofs.Common.{length, refl, sym, ap, ◌∙◌, subst, arith, length-append}
use Rattle.std.proofs.lemmas.Bool.{false≢true, eqb-true, eq-eqb}
use Rattle.dt_lang.specs.Blanks.{is_blank, HasNoEnd, BeginsWithBlank, EndsComment, BeginsWithComment, StripsBlank}
use Rattle.dt_lang.specs.Blanks.{SkipsBlanks, none_left, one_more}
use Rattle.dt_lang.specs.laws.Comments.{before_more, ends_here, no_end_nil}
use Rattle.dt_lang.specs.laws.Lists.{tails}
use Rattle.dt_lang.specs.laws.Runs.{truth_of}

-- two ends of one comment
same_end : (a b r s : List ℕ) → a ++ (42 ∷ 47 ∷ r) ≡ b ++ (42 ∷ 47 ∷ s) → HasNoEnd a → HasNoEnd b → r ≡ s
same_end [] [] r s e p q = (tails 47 47 r s (tails 42 42 _ _ e).1).1
same_end [] (y ∷ []) r s e p q =
    let t = tails 47 42 _ _ (tails 42 y _ _ e).1 in let bad = t.0 in absurd (omega arith)
same_end [] (y ∷ z ∷ ys) r s e p q =
    let t = tails 42 y _ _ e in
    let u = tails 47 z _ _ t.1 in
    absurd (q [] ys (ap (λ v. v ∷ z ∷ ys) (sym t.0) ∙ ap (λ v. 42 ∷ v ∷ ys) (sym u.0)))
same_end (x ∷ []) [] r s e p q =
    let t = tails 42 47 _ _ (tails x 42 _ _ e).1 in let bad = t.0 in absurd (omega arith)
same_end (x ∷ z ∷ xs) [] r s e p q =
    let t = tails x 42 _ _ e in
    let u = tails z 47 _ _ t.1 in
    absurd (p [] xs (ap (λ v. v ∷ z ∷ xs) t.0 ∙ ap (λ v. 42 ∷ v ∷ xs) u.0))
same_end (x ∷ xs) (y ∷ ys) r s e p q =
    let t = tails x y _ _ e in
    same_end xs ys r s t.1 (λ front back k. p (x ∷ front) back (ap (λ (v : List ℕ). x ∷ v) k))
    (λ front back k. q (y ∷ front) back (ap (λ (v : List ℕ). y ∷ v) k))

blank_or_comment : (text a b : List ℕ) → BeginsWithBlank text a → BeginsWithComment text b → ⊥
blank_or_comment text a b h k =
    let first = (tails h.byte 47 _ _ (sym h.cut ∙ k.cut)).0 in
    let blank : IsTrue (is_blank 47) = subst (λ x. IsTrue (is_blank x)) first h.blank in
    false≢true blank

same_next : (text a b : List ℕ) → StripsBlank text a → StripsBlank text b → a ≡ b
same_next text a b (inl h) (inl k) = (tails h.byte k.byte a b (sym h.cut ∙ k.cut)).1
same_next text a b (inl h) (inr k) = absurd (blank_or_comment text a b h k)
same_next text a b (inr h) (inl k) = absurd (blank_or_comment text b a k h)
same_next text a b (inr h) (inr k) =
    let behind = (tails 42 42 _ _ (tails 47 47 _ _ (sym h.cut ∙ k.cut)).1).1 in
    same_end h.ends.inside k.ends.inside a b (sym h.ends.cut ∙ behind ∙ k.ends.cut) h.ends.first k.ends.first

pub one_rest : (text a b : List ℕ) → SkipsBlanks text a → SkipsBlanks text b → a ≡ b
one_rest text a b (none_left _ n) (none_left _ k) = refl
one_rest text a b (none_left _ n) (one_more _ next _ s h) = absurd (n next s)
one_rest text a b (one_more _ next _ s h) (none_left _ n) = absurd (n next s)
one_rest text a b (one_more _ next _ s h) (one_more _ other _ t k) =
    one_rest next a b h (subst (λ (r : List ℕ). SkipsBlanks r b) (sym (same_next text next other s t)) k)

-- the end of a comment, or that there is none
pub record Shorter (P : List ℕ → List ℕ → Type 0) (text : List ℕ) : Type 0 where
  pub rest : List ℕ
  pub holds : P text rest
  pub less : length rest < length text

later : (x : ℕ) (rest : List ℕ) → ((back : List ℕ) → x ∷ rest ≢ 42 ∷ 47 ∷ back)
    → Shorter EndsComment rest ⊎ HasNoEnd rest → Shorter EndsComment (x ∷ rest) ⊎ HasNoEnd (x ∷ rest)
later x rest n (inl h) =
    let less = h.less in
    inl (record { rest = h.rest; holds = (before_more x rest n).ends h.rest h.holds; less = omega arith })
later x rest n (inr h) = inr ((before_more x rest n).endless h)

some_end : (text : List ℕ) → Shorter EndsComment text ⊎ HasNoEnd text
some_end [] = inr no_end_nil
some_end (x ∷ []) = later x [] (λ back e. cc) (inr no_end_nil)
some_end (x ∷ y ∷ rest) = elim (truth_of (eqb x 42)) [
  | inl p ↦ elim (truth_of (eqb y 47)) [
    | inl q ↦
        let first = eqb-true x 42 p in
        let second = eqb-true y 47 q in
        inl (record { rest = rest; holds = ends_here (x ∷ y ∷ rest) rest (cc); less = omega arith })
    | inr q ↦ later x (y ∷ rest)
        (λ back e. let t = tails y 47 _ _ (tails x 42 _ _ e).1 in false≢true (sym q ∙ eq-eqb y 47 t.0))
        (some_end (y ∷ rest))
  ]
  | inr p ↦ later x (y ∷ rest) (λ back e. false≢true (sym p ∙ eq-eqb x 42 (tails x 42 _ _ e).0)) (some_end (y ∷ rest))
]

comment_next : (text behind : List ℕ) → text ≡ 47 ∷ 42 ∷ behind → Shorter EndsComment behind ⊎ HasNoEnd behind
    → Shorter StripsBlank text ⊎ ((rest : List ℕ) → StripsBlank text rest → ⊥)
comment_next text behind cut (inl h) =
    let len = ap (λ (s : List ℕ). length s) cut in
    let less = h.less in
    inl (record {
      rest = h.rest;
      holds = inr (record { behind = behind; cut = cut; ends = h.holds });
      less = omega arith;
    })
comment_next text behind cut (inr n) = inr (λ rest s. elim s [
  | inl h ↦
      let first = (tails h.byte 47 _ _ (sym h.cut ∙ cut)).0 in
      let blank : IsTrue (is_blank 47) = subst (λ x. IsTrue (is_blank x)) first h.blank in
      false≢true blank
  | inr k ↦
      let same = (tails 42 42 _ _ (tails 47 47 _ _ (sym k.cut ∙ cut)).1).1 in
      n k.ends.inside rest (sym same ∙ k.ends.cut)
])

no_comment : (x : ℕ) (rest : List ℕ) → is_blank x ≡ false → ((behind : List ℕ) → x ∷ rest ≢ 47 ∷ 42 ∷ behind)
    → (next : List ℕ) → StripsBlank (x ∷ rest) next → ⊥
no_comment x rest b n next (inl h) =
    let first = (tails h.byte x _ _ (sym h.cut)).0 in
    let blank : IsTrue (is_blank x) = subst (λ y. IsTrue (is_blank y)) first h.blank in
    false≢true (sym b ∙ blank)
no_comment x rest b n next (inr k) = n k.behind k.cut

unblank : (x : ℕ) (rest : List ℕ) → is_blank x ≡ false
    → Shorter StripsBlank (x ∷ rest) ⊎ ((next : List ℕ) → StripsBlank (x ∷ rest) next → ⊥)
unblank x [] b = inr (no_comment x [] b (λ behind e. cc))
unblank x (y ∷ rest) b = elim (truth_of (eqb x 47)) [
  | inl p ↦ elim (truth_of (eqb y 42)) [
    | inl q ↦
        let first = eqb-true x 47 p in
        let second = eqb-true y 42 q in
        comment_next (x ∷ y ∷ rest) rest (cc) (some_end rest)
    | inr q ↦ inr (no_comment x (y ∷ rest) b
        (λ behind e. let t = tails y 42 _ _ (tails x 47 _ _ e).1 in false≢true (sym q ∙ eq-eqb y 42 t.0)))
  ]
  | inr p ↦ inr (no_comment x (y ∷ rest) b (λ behind e. false≢true (sym p ∙ eq-eqb x 47 (tails x 47 _ _ e).0)))
]

no_next : (rest : List ℕ) → StripsBlank [] rest → ⊥
no_next rest (inl h) = let bad = h.cut in cc
no_next rest (inr k) = let bad = k.cut in cc

some_next : (text : List ℕ) → Shorter StripsBlank text ⊎ ((rest : List ℕ) → StripsBlank text rest → ⊥)
some_next [] = inr no_next
some_next (x ∷ rest) = elim (truth_of (is_blank x)) [
  | inl b ↦ inl (record {
    rest = rest;
    holds = inl (record { byte = x; blank = b; cut = refl });
    less = omega arith;
  })
  | inr b ↦ unblank x rest b
]

-- and it is an end of the text
pub record Rest (text : List ℕ) : Type 0 where
  pub rest : List ℕ
  pub skips : SkipsBlanks text rest

rest_within : (n : ℕ) (text : List ℕ) → length text ≤ n → Rest text
rest_within zero [] le = record { rest = []; skips = none_left [] no_next }
rest_within zero (x ∷ xs) le = absurd (omega arith)
rest_within (suc n) text le = elim (some_next text) [
  | inl h ↦
      let less = h.less in
      let r = rest_within n h.rest (omega arith) in
      record { rest = r.rest; skips = one_more text h.rest r.rest h.holds r.skips }
  | inr none ↦ record { rest = text; skips = none_left text none }
]

pub some_rest : (text : List ℕ) → Rest text
some_rest text = rest_within (length text) text (omega arith)

-- what is left is no more than there was
comment_less : (text rest : List ℕ) → EndsComment text rest → length rest ≤ length text
comment_less text rest h =
    let len = ap (λ (s : List ℕ). length s) h.cut in
    let sum = length-append h.inside (42 ∷ 47 ∷ rest) in omega arith

next_less : (text rest : List ℕ) → StripsBlank text rest → length rest ≤ length text
next_less text rest (inl h) = let len = ap (λ (s : List ℕ). length s) h.cut in omega arith
next_less text rest (inr k) =
    let len = ap (λ (s : List ℕ). length s) k.cut in let less = comment_less k.behind rest k.ends in omega arith

pub rest_less : (text rest : List ℕ) → SkipsBlanks text rest → length rest ≤ length text
rest_less text rest (none_left _ n) = omega arith
rest_less text rest (one_more _ next _ s h) =
    let a = next_less text next s in let b = rest_less next rest h in omega arith
