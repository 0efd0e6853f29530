-- Of the causes that hold, the first is that for which a token is refused: so there is one at most, where the tests of all
-- causes are at hand.
use Rattle.std.proofs.Common.{◌≡◌, ◌≢◌, ◌⊎◌, inl, inr, ℕ, zero, suc, ◌<◌, ◌≤◌, List, [], ◌∷◌, Option, Some, None}
use Rattle.std.proofs.Common.{refl, sym, ap, subst, arith}
use Rattle.std.proofs.lemmas.Bool.{cases_lt}
use Rattle.dt_lang.specs.declared.fault.Flaw.{Flaw}
use Rattle.dt_lang.specs.declared.fault.Flaw.TheVariants.{Syntax, Probe, Action, Variable, TooLong, Range, Spec}
use Rattle.dt_lang.specs.declared.token.Token.{Token}
use Rattle.dt_lang.specs.Refused.{Cause, because, destroys, rank, CauseHolds, Refused}
use Rattle.dt_lang.specs.machine.Cause.{first_of}
use Rattle.dt_lang.specs.laws.ClauseSound.{none_some, same_some}

-- how many ranks of causes there are
abbrev pub RANKS : ℕ
RANKS = 8

rank_below : (cause : Cause) → rank cause < RANKS
rank_below (because (TooLong limit)) = omega arith
rank_below (destroys what) = omega arith
rank_below (because (Probe fault)) = omega arith
rank_below (because Action) = omega arith
rank_below (because Variable) = omega arith
rank_below (because (Range fault)) = omega arith
rank_below (because Spec) = omega arith
rank_below (because Syntax) = omega arith

-- What the test of a rank tells: the cause of that rank that holds, if one does.
pub record Tells (ts : List Token) (t : Token) (n : ℕ) (found : Option Cause) : Type 0 where
  pub ranked : (cause : Cause) → found ≡ Some cause → rank cause ≡ n
  pub holds : (cause : Cause) → found ≡ Some cause → CauseHolds ts t cause
  pub tells : (cause : Cause) → rank cause ≡ n → CauseHolds ts t cause → found ≡ Some cause

-- the tests of all ranks from this one on, in order
pub data Tests (ts : List Token) (t : Token) : ℕ → List (Option Cause) → Type 0 where
  done : Tests ts t RANKS []
  test : (n : ℕ) (found : Option Cause) (rest : List (Option Cause)) → Tells ts t n found
      → Tests ts t (suc n) rest → Tests ts t n (found ∷ rest)

module _ (ts : List Token) (t : Token) where
  -- none of the causes of a lower rank holds
  abbrev NoneBelow : ℕ → Type 0
  NoneBelow n = (other : Cause) → rank other < n → CauseHolds ts t other → ⊥

  none_below_more : (n : ℕ) → Tells ts t n None → NoneBelow n → NoneBelow (suc n)
  none_below_more n told below other r h = elim (less_or_same (rank other) n r) [
    | inl less ↦ below other less h
    | inr same ↦ none_some (told.tells other same h)
  ]
    where
      less_or_same : (m n : ℕ) → m < suc n → (m < n) ⊎ (m ≡ n)
      less_or_same zero zero r = inr refl
      less_or_same zero (suc n) r = inl (omega arith)
      less_or_same (suc m) zero r = absurd (omega arith)
      less_or_same (suc m) (suc n) r = elim (less_or_same m n (omega arith)) [
        | inl less ↦ inl (omega arith)
        | inr same ↦ inr (ap suc same)
      ]

  refused_from : (n : ℕ) (found : List (Option Cause)) (cause : Cause) → Tests ts t n found → NoneBelow n
      → first_of found ≡ Some cause → Refused ts t cause
  refused_from _ _ cause done below e = absurd (none_some e)
  refused_from _ _ cause (test n (Some first) rest told more) below e =
      let same : first ≡ cause = same_some e in
      let at : Some first ≡ Some cause = e in
      record {
        holds = told.holds cause at;
        first = λ other r h. below other (subst (λ (k : ℕ). rank other < k) (told.ranked cause at) r) h;
      }
  refused_from _ _ cause (test n None rest told more) below e =
      refused_from (suc n) rest cause more (none_below_more n told below) e

  unrefused_from : (n : ℕ) (found : List (Option Cause)) → Tests ts t n found → NoneBelow n
      → first_of found ≡ None → (cause : Cause) → CauseHolds ts t cause → ⊥
  unrefused_from _ _ done below e cause h = below cause (rank_below cause) h
  unrefused_from _ _ (test n (Some first) rest told more) below e cause h = cc
  unrefused_from _ _ (test n None rest told more) below e cause h =
      unrefused_from (suc n) rest more (none_below_more n told below) e cause h

  -- what a token is refused for is the first cause whose test is met, so it is one
  first_from : (n : ℕ) (found : List (Option Cause)) (cause : Cause) → Tests ts t n found → n ≤ rank cause
      → Refused ts t cause → first_of found ≡ Some cause
  first_from _ _ cause done least r = absurd (omega (arith, rank_below cause))
  first_from _ _ cause (test n (Some first) rest told more) least r = elim (cases_lt n (rank cause)) [
    | inl less ↦ absurd (r.first first (subst (λ (k : ℕ). k < rank cause) (sym (told.ranked first refl)) less)
        (told.holds first refl))
    | inr reached ↦ told.tells cause (omega arith) r.holds
  ]
  first_from _ _ cause (test n None rest told more) least r = elim (cases_lt n (rank cause)) [
    | inl less ↦ first_from (suc n) rest cause more (omega arith) r
    | inr reached ↦ absurd (none_some (told.tells cause (omega arith) r.holds))
  ]

  none_first : NoneBelow 0
  none_first other r h = absurd (omega arith)

  -- the first cause whose test is met is that for which the token is refused
  pub refused_by : (found : List (Option Cause)) (cause : Cause) → Tests ts t 0 found → first_of found ≡ Some cause
      → Refused ts t cause
  refused_by found cause tests e = refused_from 0 found cause tests none_first e

  pub first_by : (found : List (Option Cause)) (cause : Cause) → Tests ts t 0 found → Refused ts t cause
      → first_of found ≡ Some cause
  first_by found cause tests r = first_from 0 found cause tests (omega arith) r

  pub unrefused_by : (found : List (Option Cause)) → Tests ts t 0 found → first_of found ≡ None
      → (cause : Cause) → CauseHolds ts t cause → ⊥
  unrefused_by found tests e cause h = unrefused_from 0 found tests none_first e cause h

pub not_destructive : (flaw : Flaw) → rank (because flaw) ≢ 1
not_destructive (TooLong limit) r = omega arith
not_destructive (Probe fault) r = omega arith
not_destructive Action r = omega arith
not_destructive Variable r = omega arith
not_destructive (Range fault) r = omega arith
not_destructive Spec r = omega arith
not_destructive Syntax r = omega arith
