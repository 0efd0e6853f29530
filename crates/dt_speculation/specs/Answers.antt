-- What a draw and a put answer, and how many draws failed. Guide, Speculative Tracing; that the least identifier is given is
-- this project's own.
use Rattle.std.specs.Prelude.{◌≡◌, ℕ, ◌+◌, ◌<◌, ◌≤◌, ◌⊎◌, ◌↔◌, ◌==◌, Bool, true, false, List, [], ◌∷◌, ◌++◌, if◌then◌else◌}
use Rattle.dt_speculation.specs.History.{SpecEvent, SpecPast, draw, put_under, free}
use Rattle.dt_speculation.specs.Records.{KeepsPart}
use Rattle.dt_speculation.specs.Uses.{is_in_use}
use Rattle.dt_speculation.specs.declared.answer.SpecPut.{SpecPut}
use Rattle.dt_speculation.specs.declared.answer.SpecPut.TheVariants.{Kept, Unknown}

-- Of the identifiers 1 to `nspec`, this is the least that isn't in use.
pub record IsLeastFree (nspec : ℕ) (events : List SpecEvent) (id : ℕ) : Type 0 where
  pub from : 1 ≤ id
  pub to : id ≤ nspec
  pub free_now : is_in_use id events ≡ false
  pub least : (n : ℕ) → 1 ≤ n → n < id → is_in_use n events ≡ true

-- All of them are in use.
abbrev pub AllInUse : ℕ → List SpecEvent → Type 0
AllInUse nspec events = (n : ℕ) → 1 ≤ n → n ≤ nspec → is_in_use n events ≡ true

-- What a draw answers after some events: the least identifier that isn't in use, or 0 where all are.
abbrev pub DrawAnswers : ℕ → List SpecEvent → ℕ → Type 0
DrawAnswers nspec events answer = IsLeastFree nspec events answer ⊎ ((answer ≡ 0) × AllInUse nspec events)

-- Each draw of a past answered what it had to after what came before it.
abbrev pub AreAnswered : SpecPast → Type 0
AreAnswered past = (earlier later : List SpecEvent) (answer : ℕ) → past.events ≡ earlier ++ draw answer ∷ later
    → DrawAnswers past.nspec earlier answer

-- how many draws failed
abbrev pub failed_draws : List SpecEvent → ℕ
failed_draws [] = 0
failed_draws (draw answer ∷ later) = if answer == 0 then failed_draws later + 1 else failed_draws later
failed_draws (put_under id cpu bytes ∷ later) = failed_draws later
failed_draws (free id ∷ later) = failed_draws later

-- What is said of a record: exactly where the identifier isn't in use, that it is unknown; exactly where it is in use and its
-- part keeps the record, that it is kept; else that it is dropped.
pub record PutSays (in_use : Bool) (Keeps : Type 0) (answer : SpecPut) : Type 0 where
  pub unknown : (answer ≡ Unknown) ↔ (in_use ≡ false)
  pub kept : (answer ≡ Kept) ↔ ((in_use ≡ true) × Keeps)

-- What is said after a past of a record that is put under an identifier on a processor.
abbrev pub SpecPutAnswers : SpecPast → ℕ → ℕ → List ℕ → SpecPut → Type 0
SpecPutAnswers past id cpu bytes answer = PutSays (is_in_use id past.events) (KeepsPart past id cpu bytes) answer
