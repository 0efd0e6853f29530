-- clap says of the command that is built what it says of the definition's.
use Rattle.std.proofs.Common.{inl, inr, subst, refl, ◌≡◌, true, List, [], map, ℕ}
use Rattle.std.specs.Borrow.{Bor}
use Rattle.clap.specs.Words.{HasMatchesOf, HasKind, fault_of, is_simple_and_free}
use Rattle.dtraced.proofs.words.matches_of.Goals as goal

pub returns-in-Ok-try_get_matches_from-clause-ok :
    goal.returns-in-Ok-try_get_matches_from-clause-ok
returns-in-Ok-try_get_matches_from-clause-ok c =
    let words : List (List ℕ) = map (λ (word : Bor (List ℕ)). word.now) c.args.words.now in (
      subst (λ a. is_simple_and_free a ≡ true → fault_of a words ≡ []) c.in-Ok.ensures
          c.in-Ok-try_get_matches_from.ensures.kinds refl,
      (subst (λ a. HasMatchesOf a words c.in-Ok-try_get_matches_from.matches) c.in-Ok.ensures
          c.in-Ok-try_get_matches_from.ensures.matches refl).1,
    )

pub returns-in-Err-clause-err : goal.returns-in-Err-clause-err
returns-in-Err-clause-err c =
    let words : List (List ℕ) = map (λ (word : Bor (List ℕ)). word.now) c.args.words.now in
    λ none. elim (subst (λ faults. HasKind faults c.in-Err.error) none
    (subst (λ a. is_simple_and_free a ≡ true → HasKind (fault_of a words) c.in-Err.error) c.in-Ok.ensures
    c.in-Err.ensures.kinds refl)) [
      | inl h ↦ c.of.ensures.1 h
      | inr h ↦ absurd h
    ]
