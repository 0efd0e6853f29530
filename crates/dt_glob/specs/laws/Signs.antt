-- Signs and how they are written.
use Rattle.std.proofs.Common.{◌≡◌, ◌≢◌, ℕ, ◌⊎◌, inl, inr, Bool, true, false, List, [], ◌∷◌, ◌++◌, refl, sym, ◌∙◌}
use Rattle.std.proofs.Common.{append_assoc, arith}
use Rattle.std.proofs.lemmas.Bool.{false≢true}
use Rattle.dt_glob.specs.declared.sign.PatternSign.{PatternSign}
use Rattle.dt_glob.specs.declared.sign.PatternSign.TheVariants.{Plain, Escaped}
use Rattle.dt_glob.specs.Sign.{sign_text, text_of_signs, IsSign, AreSigns, closing_bracket, bang}
use Rattle.dt_glob.specs.Spells.{Lacks, mark}
use Rattle.dt_glob.specs.Reading.{is_plain}

pub text_of_signs-append : (a b : List PatternSign) → text_of_signs (a ++ b) ≡ text_of_signs a ++ text_of_signs b
text_of_signs-append [] b = refl
text_of_signs-append (sign ∷ a) b =
    rw (text_of_signs-append a b) (sym (append_assoc (sign_text sign) (text_of_signs a) (text_of_signs b)))

pub AreSigns-append : (a b : List PatternSign) → AreSigns a → AreSigns b → AreSigns (a ++ b)
AreSigns-append [] b p q = q
AreSigns-append (sign ∷ a) b p q = (p.0, AreSigns-append a b p.1 q)

pub AreSigns-front : (a b : List PatternSign) → AreSigns (a ++ b) → AreSigns a
AreSigns-front [] b p = tt
AreSigns-front (sign ∷ a) b p = (p.0, AreSigns-front a b p.1)

pub AreSigns-back : (a b : List PatternSign) → AreSigns (a ++ b) → AreSigns b
AreSigns-back [] b p = p
AreSigns-back (sign ∷ a) b p = AreSigns-back a b p.1

-- a text begins with one sign at most
pub same_sign : (a b : PatternSign) (r s : List ℕ) → IsSign a → IsSign b → sign_text a ++ r ≡ sign_text b ++ s → (a ≡ b)
    × (r ≡ s)
same_sign (Plain x) (Plain y) r s p q e = (cc, cc)
same_sign (Plain x) (Escaped y) r s p q e = let k : x ≡ 92 = cc in absurd (p k)
same_sign (Escaped x) (Plain y) r s p q e = let k : y ≡ 92 = cc in absurd (q k)
same_sign (Escaped x) (Escaped y) r s p q e = (cc, cc)

pub plain_cases : (own : ℕ) (sign : PatternSign) → ((is_plain own sign ≡ true) × (sign ≡ Plain own))
    ⊎ ((is_plain own sign ≡ false) × (sign ≢ Plain own))
plain_cases own (Plain byte) = grind arith
plain_cases own (Escaped byte) = inr (refl, λ e. cc)

pub is_plain-true : (own : ℕ) (sign : PatternSign) → is_plain own sign ≡ true → sign ≡ Plain own
is_plain-true own sign e = elim (plain_cases own sign) [ inl w ↦ w.1 | inr w ↦ absurd (false≢true (sym w.0 ∙ e)) ]

pub is_plain-false : (own : ℕ) (sign : PatternSign) → sign ≢ Plain own → is_plain own sign ≡ false
is_plain-false own sign n = elim (plain_cases own sign) [ inl w ↦ absurd (n w.1) | inr w ↦ w.0 ]

pub is_plain-same : (own : ℕ) → is_plain own (Plain own) ≡ true
is_plain-same own = elim (plain_cases own (Plain own)) [ inl w ↦ w.0 | inr w ↦ absurd (w.1 refl) ]

pub plain_apart : (a b : ℕ) → a ≢ b → Plain a ≢ Plain b
plain_apart a b n e = n (cc e)

pub bang_apart : bang ≢ closing_bracket
bang_apart = plain_apart 33 93 (λ e. omega arith)

pub Lacks-mark : (negated : Bool) (inside : List PatternSign) → Lacks closing_bracket inside → Lacks closing_bracket (mark negated ++ inside)
Lacks-mark true inside h = (bang_apart, h)
Lacks-mark false inside h = h

pub escaped_apart : (a b : ℕ) → Escaped a ≢ Plain b
escaped_apart a b e = cc
