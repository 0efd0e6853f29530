-- A put answers that the record was dropped exactly where its part drops it.
use Rattle.std.proofs.Common.{◌≡◌, ℕ, ◌+◌, ◌<◌, ◌≤◌, ◌↔◌, ⊎_elim, Bool, true, false, ◌&&◌, List, length, refl, sym, ◌∙◌, IsTrue, arith}
use Rattle.std.specs.Prelude.{nat_eq, nat_lt, nat_le}
use Rattle.std.proofs.lemmas.Bool.{and_from, and_parts, cases_Bool, eq-eqb, false≢true, leb-true, leb-false, lt-ltb, ltb-true}
use Rattle.dt_buffer.specs.Choice.{IsFittingChoice}
use Rattle.dt_speculation.specs.Answers.{SpecPutAnswers}
use Rattle.dt_speculation.specs.History.{SpecPast, put_under}
use Rattle.dt_speculation.specs.Parts.{is_dropped, part_bytes}
use Rattle.dt_speculation.specs.Records.{KeepsPart, records_of}
use Rattle.dt_speculation.specs.Uses.{is_in_use}
use Rattle.dt_speculation.specs.declared.answer.SpecPut.{SpecPut}
use Rattle.dt_speculation.specs.declared.answer.SpecPut.TheVariants.{Kept, Dropped, Unknown}
use Rattle.dt_speculation.specs.laws.Parts.{part_is}
use Rattle.dt_speculation.proofs.Parts.{part_keeps}

module _ (one : (size : ℕ) (attempts : List (List ℕ)) (a b : List Bool) → IsFittingChoice size attempts a
    → IsFittingChoice size attempts b → a ≡ b) (past : SpecPast) (id cpu : ℕ) (bytes : List ℕ) where
  -- how long the part would be with the record
  abbrev Long : ℕ
  Long = length (part_bytes past id cpu) + length bytes

  abbrev Used : Bool
  Used = is_in_use id past.events

  keeps : (b : Bool) → IsTrue b ↔ (Long ≤ past.specsize) → IsTrue b ↔ KeepsPart past id cpu bytes
  keeps b fits =
      let shown = part_is past id cpu in
      part_keeps one past.specsize (records_of id cpu past.events) bytes (part_bytes past id cpu) shown.0 shown.1 b fits

  kept_if : Long ≤ past.specsize → KeepsPart past id cpu bytes
  kept_if fits = (keeps true ((λ _. fits), (λ _. refl))).0 refl

  not_kept : past.specsize < Long → KeepsPart past id cpu bytes → ⊥
  not_kept over k = false≢true ((keeps false ((λ e. absurd (false≢true e)), (λ fits. absurd (omega (arith, over, fits))))).1 k)

  abbrev Tested : Bool
  Tested = is_dropped cpu past (put_under id cpu bytes)

  both : Tested ≡ true → (Used ≡ true) × (past.specsize < Long)
  both e =
      let rest = (and_parts (nat_eq cpu cpu) (Used && nat_lt past.specsize Long) e).1 in
      let two = and_parts Used (nat_lt past.specsize Long) rest in
      (two.0, ltb-true past.specsize Long two.1)

  tested : Used ≡ true → past.specsize < Long → Tested ≡ true
  tested used over =
      and_from (nat_eq cpu cpu) (Used && nat_lt past.specsize Long) (eq-eqb cpu cpu refl)
      (and_from Used (nat_lt past.specsize Long) used (lt-ltb past.specsize Long over))

  over_or : (b : Bool) → nat_le Long past.specsize ≡ b → (Long ≤ past.specsize → past.specsize < Long) → past.specsize < Long
  over_or true e h = h (leb-true Long past.specsize e)
  over_or false e h = leb-false Long past.specsize e

  pub told : (answer : SpecPut) → SpecPutAnswers past id cpu bytes answer → (answer ≡ Dropped) ↔ (Tested ≡ true)
  told Kept says = ((λ e. cc), (λ e. absurd (not_kept (both e).1 (says.kept.0 refl).1)))
  told Unknown says = ((λ e. cc), (λ e. absurd (false≢true (sym (says.unknown.0 refl) ∙ (both e).0))))
  told Dropped says =
      let used : Used ≡ true = ⊎_elim (λ e. e) (λ e. (let no : Dropped ≡ Unknown = says.unknown.1 e in cc)) (cases_Bool Used) in
      let over : past.specsize < Long =
      over_or (nat_le Long past.specsize) refl (λ fits. (let no : Dropped ≡ Kept = says.kept.1 (used, kept_if fits) in cc)) in
      ((λ _. tested used over), (λ _. refl))
