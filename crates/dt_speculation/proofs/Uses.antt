-- What is said of an identifier's parts.
use Rattle.std.proofs.Common.{◌≡◌, ℕ, Bool, false, List, []}
use Rattle.std.proofs.Common.{refl, sym, ◌∙◌, subst}
use Rattle.std.specs.List.{All, slice_get}
use Rattle.std.specs.Option.{MatchOption}
use Rattle.std.proofs.lemmas.Bool.{false≢true}
use Rattle.dt_speculation.specs.Answers.{PutSays}
use Rattle.dt_speculation.specs.IsAt.{PartIsAt, SpeculationIsAt}
use Rattle.dt_speculation.specs.Records.{ShowsPart}
use Rattle.dt_speculation.specs.declared.answer.SpecPut.TheVariants.{Unknown}
use Rattle.dt_speculation.specs.declared.speculation.Speculation.{Speculation}
use Rattle.dt_speculation.proofs.Parts.{shows_none}
use Rattle.dt_speculation.proofs.Places.{at_each}

-- The same said of the same.
module _ (size : ℕ) (before after : Bool) (records others : ℕ → List (List ℕ)) (one : Speculation) where
  pub same_speculation : before ≡ after → ((cpu : ℕ) → records cpu ≡ others cpu)
      → SpeculationIsAt size before records one → SpeculationIsAt size after others one
  same_speculation same_use same s = record {
    same_use = s.same_use ∙ same_use;
    parts = λ cpu. subst (λ rs. MatchOption (slice_get one.parts.items cpu) (rs ≡ []) (PartIsAt size rs)) (same cpu) (s.parts cpu);
  }

-- One whose parts are all empty.
pub speculation_none : (size : ℕ) (used : Bool) (one : Speculation) → one.in_use ≡ used
    → All (PartIsAt size []) one.parts.items → SpeculationIsAt size used (λ cpu. []) one
speculation_none size used one same empty = record {
  same_use = same;
  parts = at_each (λ cpu. [] ≡ []) (PartIsAt size []) one.parts.items empty (λ cpu. refl);
}

-- what is said of a record
pub says_unknown : (used : Bool) (Keeps : Type 0) → used ≡ false → PutSays used Keeps Unknown
says_unknown used Keeps e = record {
  unknown = ((λ _. e), (λ _. refl));
  kept = ((λ h. cc), (λ h. absurd (false≢true (sym e ∙ h.0))));
}

-- Where there are no records, nothing is shown.
pub none_shown : (size : ℕ) (records : List (List ℕ)) → records ≡ [] → ShowsPart size records []
none_shown size records e =
    let P : List (List ℕ) → Type 0 = λ rs. ShowsPart size rs [] in subst P (sym e) (0, shows_none size)
