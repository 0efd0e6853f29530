-- The step lines of lines, and of the lines with one more.
use Rattle.std.proofs.Common.{◌≡◌, ℕ, ◌+◌, ◌-◌, ◌≤◌, ◌==◌, Bool, true, false, List, [], ◌∷◌, ◌++◌, length, take, map}
use Rattle.std.proofs.Common.{filter, append_assoc, refl, sym, ap, ◌∙◌, subst, arith}
use Rattle.std.specs.List.{AllByRecursion}
use Rattle.std.proofs.lemmas.List.{append-nil, length-append, length-map, map-append}
use Rattle.std.proofs.lemmas.List.Sums.{fold-append}
use Rattle.std.proofs.Math.Seq.{take-append_seam}
use Rattle.std.proofs.lemmas.List.Elements.{filter-append}
use Rattle.dt_machine.specs.Registry.{Registry, Contents}
use Rattle.dt_world.specs.Input.{AreStepLines, IsLineOn, IsRefused, is_written, input_lines}
use Rattle.dt_world.specs.Progress.{HasTakenLines}
use Rattle.dt_world.specs.Replay.{replayed, after_step_line, beginning}
use Rattle.dt_world.specs.StepLine.{StepLineForm, step_line_text, SpellsStepLine, IsWritableStep}
use Rattle.dt_world.specs.Told.{IsOutput}
use Rattle.dt_world.specs.declared.progress.Progress.{Progress}
use Rattle.dt_world.specs.declared.output.Wanted.{Wanted}
use Rattle.dt_world.specs.declared.output.Wanted.TheVariants as wanted
use Rattle.dt_world.proofs.StepLines.{one_step_line}

-- Writable step lines of one spelling are the same.
pub same_forms : (a b : List StepLineForm) → AllByRecursion IsWritableStep a → AllByRecursion IsWritableStep b
    → map step_line_text a ≡ map step_line_text b → a ≡ b
same_forms [] [] p q e = refl
same_forms [] (y ∷ b) p q e = cc
same_forms (x ∷ a) [] p q e = cc
same_forms (x ∷ a) (y ∷ b) p q e =
    let first : step_line_text x ≡ step_line_text y = cc in
    let one : x ≡ y = one_step_line (step_line_text x) x y (record { writable = p.0; spelled = refl }) (record {
      writable = q.0;
      spelled = first;
    }) in
    let more : a ≡ b = same_forms a b p.1 q.1 (cc) in
    cc

module _ (P : StepLineForm → Type 0) where
  all-one_more : (forms : List StepLineForm) (form : StepLineForm) → AllByRecursion P forms → P form
      → AllByRecursion P (forms ++ form ∷ [])
  all-one_more [] form all here = (here, tt)
  all-one_more (a ∷ forms) form all here = (all.0, all-one_more forms form all.1 here)

  of_last : (forms : List StepLineForm) (form : StepLineForm) → AllByRecursion P (forms ++ form ∷ []) → P form
  of_last [] form all = all.0
  of_last (a ∷ forms) form all = of_last forms form all.1

  of_front : (forms : List StepLineForm) (form : StepLineForm) → AllByRecursion P (forms ++ form ∷ [])
      → AllByRecursion P forms
  of_front [] form all = tt
  of_front (a ∷ forms) form all = (all.0, of_front forms form all.1)

written-one_more : (lines : List (List ℕ)) (line : List ℕ) → is_written line ≡ true
    → filter is_written (lines ++ line ∷ []) ≡ filter is_written lines ++ line ∷ []
written-one_more lines line h = filter-append is_written lines (line ∷ [])
    ∙ ap (λ more. filter is_written lines ++ more) (rw h refl)

pub no_lines : (registry : Registry) → AreStepLines registry [] []
no_lines registry = record { spelled = refl; writable = tt; known = tt }

pub lines-empty_one : (registry : Registry) (lines : List (List ℕ)) (forms : List StepLineForm)
    → AreStepLines registry lines forms → AreStepLines registry (lines ++ [] ∷ []) forms
lines-empty_one registry lines forms h = record {
  spelled = filter-append is_written lines ([] ∷ []) ∙ append-nil (filter is_written lines) ∙ h.spelled;
  writable = h.writable;
  known = h.known;
}

pub lines-one_more : (registry : Registry) (lines : List (List ℕ)) (forms : List StepLineForm) (line : List ℕ)
    (form : StepLineForm) → AreStepLines registry lines forms → is_written line ≡ true → SpellsStepLine line form
    → IsLineOn registry form → AreStepLines registry (lines ++ line ∷ []) (forms ++ form ∷ [])
lines-one_more registry lines forms line form h written spells known = record {
  spelled = written-one_more lines line written ∙ ap (λ before. before ++ line ∷ []) h.spelled
      ∙ ap (λ last. map step_line_text forms ++ last ∷ []) spells.spelled
      ∙ sym (map-append step_line_text forms (form ∷ []));
  writable = all-one_more IsWritableStep forms form h.writable spells.writable;
  known = all-one_more (IsLineOn registry) forms form h.known known;
}

-- a list of step lines that spells one line more, cut before its last one
record IsCutAtLast (forms : List StepLineForm) (lines : List (List ℕ)) (line : List ℕ) : Type 0 where
  before : List StepLineForm
  last : StepLineForm
  whole : forms ≡ before ++ last ∷ []
  spelled : map step_line_text before ≡ lines
  is : step_line_text last ≡ line

cut_at_last : (forms : List StepLineForm) (lines : List (List ℕ)) (line : List ℕ)
    → map step_line_text forms ≡ lines ++ line ∷ [] → IsCutAtLast forms lines line
cut_at_last [] [] line e = cc
cut_at_last [] (x ∷ lines) line e = cc
cut_at_last (a ∷ []) [] line e = record { before = []; last = a; whole = refl; spelled = refl; is = cc }
cut_at_last (a ∷ b ∷ forms) [] line e = cc
cut_at_last (a ∷ forms) (x ∷ lines) line e =
    let more = cut_at_last forms lines line (cc) in
    record {
      before = a ∷ more.before;
      last = more.last;
      whole = ap (λ more_forms. a ∷ more_forms) more.whole;
      spelled = let first : step_line_text a ≡ x = cc in rw (first, more.spelled) refl;
      is = more.is;
    }

-- the last of the step lines with one line more
pub record IsLast (registry : Registry) (line : List ℕ) : Type 0 where
  pub form : StepLineForm
  pub spells : SpellsStepLine line form
  pub known : IsLineOn registry form

pub last_line : (registry : Registry) (lines : List (List ℕ)) (all : List StepLineForm) (line : List ℕ)
    → is_written line ≡ true → AreStepLines registry (lines ++ line ∷ []) all → IsLast registry line
last_line registry lines all line written more =
    let cut = cut_at_last all (filter is_written lines) line
    (sym more.spelled ∙ written-one_more lines line written) in
    record {
      form = cut.last;
      spells = record {
        writable = of_last IsWritableStep cut.before cut.last
            (subst (AllByRecursion IsWritableStep) cut.whole more.writable);
        spelled = sym cut.is;
      };
      known = of_last (IsLineOn registry) cut.before cut.last (subst (AllByRecursion (IsLineOn registry)) cut.whole
          more.known);
    }

pub same_line : (registry : Registry) (line : List ℕ) (form : StepLineForm) → SpellsStepLine line form
    → (last : IsLast registry line) → IsLineOn registry form
same_line registry line form spells last =
    subst (IsLineOn registry) (one_step_line line last.form form last.spells spells) last.known

pub written : (line : List ℕ) → false ≡ (length line == 0) → is_written line ≡ true
written [] h = cc
written (byte ∷ line) h = refl

fewer_at : (line : List ℕ) (lines : List (List ℕ)) (b : Bool) → is_written line ≡ b
    → length (filter is_written lines) ≤ length lines → length (filter is_written (line ∷ lines))
    ≤ length (line ∷ lines)
fewer_at line lines true is h = rw is (omega (arith, h))
fewer_at line lines false is h = rw is (omega (arith, h))

fewer_written : (lines : List (List ℕ)) → length (filter is_written lines) ≤ length lines
fewer_written [] = omega arith
fewer_written (line ∷ lines) = fewer_at line lines (is_written line) refl (fewer_written lines)

-- there are no more step lines than lines
pub fewer_forms : (registry : Registry) (lines : List (List ℕ)) (forms : List StepLineForm)
    → AreStepLines registry lines forms → length forms ≤ length lines
fewer_forms registry lines forms h =
    let same : length (filter is_written lines) ≡ length (map step_line_text forms) = ap length h.spelled in
    omega (arith, same, length-map forms step_line_text, fewer_written lines)

pub refused_here : (registry : Registry) (all lines others : List (List ℕ)) (line : List ℕ) (number : ℕ)
    (forms : List StepLineForm)
    → all ≡ (lines ++ line ∷ []) ++ others → number ≡ length lines → AreStepLines registry lines forms
    → ((more : List StepLineForm) → AreStepLines registry (lines ++ line ∷ []) more → ⊥)
    → IsRefused registry all (number + 1)
refused_here registry all lines others line number forms whole is steps none =
    let one_more : length (lines ++ line ∷ []) ≡ length lines + 1 = length-append lines (line ∷ []) in
    let with_line : take (number + 1) all ≡ lines ++ line ∷ [] =
    rw whole (ap (λ n. take n ((lines ++ line ∷ []) ++ others)) (omega (arith, is, one_more))
    ∙ take-append_seam (lines ++ line ∷ []) others) in
    let without : take ((number + 1) - 1) all ≡ lines =
    rw whole (ap (λ n. take n ((lines ++ line ∷ []) ++ others)) (omega (arith, is))
    ∙ ap (take (length lines)) (append_assoc lines (line ∷ []) others) ∙ take-append_seam lines (line ∷ others)) in
    let as_long : length all ≡ length (lines ++ line ∷ []) + length others = ap length whole
    ∙ length-append (lines ++ line ∷ []) others in
    record {
      some = omega arith;
      within = omega (arith, is, one_more, as_long);
      before = (forms, subst (λ ls. AreStepLines registry ls forms) (sym without) steps);
      none = λ more h. none more (subst (λ ls. AreStepLines registry ls more) with_line h);
    }

-- where a replay stands after one line more
pub replayed-one_more : (contents : Contents) (forms : List StepLineForm) (form : StepLineForm)
    → replayed contents (forms ++ form ∷ []) ≡ after_step_line contents (replayed contents forms) form
replayed-one_more contents forms form = fold-append (after_step_line contents) beginning forms (form ∷ [])

-- all lines were taken
pub finished : (wanted : Wanted) (contents : Contents) (text : List ℕ) (lines : List (List ℕ)) (progress : Progress)
    → input_lines text ≡ lines → HasTakenLines wanted contents lines progress
    → IsOutput wanted contents text progress.output.text.items
finished wanted.Replies contents text lines progress whole taken = record {
  forms = taken.forms;
  told = taken.after.told.0;
  lines = subst (λ ls. AreStepLines contents.registry ls taken.forms) (sym whole) taken.steps;
  replies = taken.after.told.1;
  written = taken.after.told.2;
}
finished (wanted.Trail own) contents text lines progress whole taken = record {
  forms = taken.forms;
  lines = subst (λ ls. AreStepLines contents.registry ls taken.forms) (sym whole) taken.steps;
  trail = taken.after.told;
}
