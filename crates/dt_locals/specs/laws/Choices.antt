-- A past has one choice, and one assignment more is chosen or it isn't.
use Rattle.std.proofs.Common.{◌≡◌, ℕ, zero, suc, ◌+◌, ◌<◌, ◌≤◌, ◌*◌, ◌↔◌, ⊎_elim, inl, inr, Bool, true, false, List, []}
use Rattle.std.proofs.Math.Bool.{or-true}
use Rattle.std.proofs.Common.{◌∷◌, ◌++◌, length, get_or, take, Some, refl, sym, ap, ◌∙◌, subst, IsTrue, ◌||◌, arith}
use Rattle.std.specs.Prelude.{slice_get, nat_le, pos}
use Rattle.std.specs.List.{fold}
use Rattle.std.specs.Ordering.{int_eq}
use Rattle.std.proofs.Math.Seq.{take-suc}
use Rattle.std.proofs.lemmas.Bool.{cases_eq, or_cases, leb-true, le-leb}
use Rattle.std.proofs.lemmas.Bool.Decides.{Decides-int_eq}
use Rattle.std.proofs.lemmas.List.{append_assoc, append-nil, take-append-le, take_all, length_push}
use Rattle.std.proofs.lemmas.Option.{slice_get_within}
use Rattle.dt_locals.specs.Limits.{local_size}
use Rattle.dt_locals.specs.History.{Assignment, LocalsPast, locals_after, locals_then}
use Rattle.dt_locals.specs.Values.{local_value, set_count, is_set}
use Rattle.dt_locals.specs.Kept.{IsKeptAssignment, IsLocalsChoice}
use Rattle.dt_locals.specs.Chosen.{is_kept_assignment, locals_choice}
use Rattle.dt_locals.specs.laws.Same.{set_is, set_yes}

-- what is true exactly where the same holds is the same
pub same_bits : (x y : Bool) (P : Type 0) → IsTrue x ↔ P → IsTrue y ↔ P → x ≡ y
same_bits true true P f g = refl
same_bits true false P f g = sym (g.1 (f.0 refl))
same_bits false true P f g = f.1 (g.0 refl)
same_bits false false P f g = refl

-- ---- elements of lists

assignment_at : (assignments : List Assignment) (i : ℕ) → i < length assignments
    → (assignment : Assignment) × (slice_get assignments i ≡ Some assignment)
assignment_at [] i h = absurd (omega arith)
assignment_at (assignment ∷ assignments) zero h = (assignment, refl)
assignment_at (assignment ∷ assignments) (suc i) h = assignment_at assignments i (omega arith)

get-push : (assignments : List Assignment) (assignment : Assignment) (i : ℕ) → i < length assignments
    → slice_get (assignments ++ assignment ∷ []) i ≡ slice_get assignments i
get-push [] assignment i h = absurd (omega arith)
get-push (a ∷ assignments) assignment zero h = refl
get-push (a ∷ assignments) assignment (suc i) h = get-push assignments assignment i (omega arith)

get-last : (assignments : List Assignment) (assignment : Assignment) (i : ℕ) → i ≡ length assignments
    → slice_get (assignments ++ assignment ∷ []) i ≡ Some assignment
get-last [] assignment zero e = refl
get-last [] assignment (suc i) e = absurd (omega arith)
get-last (a ∷ assignments) assignment zero e = absurd (omega arith)
get-last (a ∷ assignments) assignment (suc i) e = get-last assignments assignment i (omega arith)

get_or-push : (xs : List Bool) (x d : Bool) (i : ℕ) → i < length xs → get_or (xs ++ x ∷ []) i d ≡ get_or xs i d
get_or-push [] x d i h = absurd (omega arith)
get_or-push (y ∷ xs) x d zero h = refl
get_or-push (y ∷ xs) x d (suc i) h = get_or-push xs x d i (omega arith)

get_or-last : (xs : List Bool) (x d : Bool) (i : ℕ) → i ≡ length xs → get_or (xs ++ x ∷ []) i d ≡ x
get_or-last [] x d zero e = refl
get_or-last [] x d (suc i) e = absurd (omega arith)
get_or-last (y ∷ xs) x d zero e = absurd (omega arith)
get_or-last (y ∷ xs) x d (suc i) e = get_or-last xs x d i (omega arith)

take-whole : {X : Type 0} (xs : List X) (i : ℕ) → i ≡ length xs → take i xs ≡ xs
take-whole xs i e = take_all i xs (omega arith)

-- ---- one choice at most

module _ (past : LocalsPast) (a b : List Bool) (ca : IsLocalsChoice past a) (cb : IsLocalsChoice past b) where
  same_bit : (i : ℕ) → i < length past.assignments → take i a ≡ take i b → get_or a i false ≡ get_or b i false
  same_bit i h front =
      let at = assignment_at past.assignments i h in
      let P : List Bool → Type 0 =
      λ t. IsTrue (get_or b i false) ↔ IsKeptAssignment past.dynvarsize (take i past.assignments) t at.0 in
      same_bits (get_or a i false) (get_or b i false)
      (IsKeptAssignment past.dynvarsize (take i past.assignments) (take i a) at.0)
      (ca.exactly i at.0 at.1) (subst P (sym front) (cb.exactly i at.0 at.1))

  same_front : (i : ℕ) → i ≤ length past.assignments → take i a ≡ take i b
  same_front zero h = refl
  same_front (suc i) h =
      let front = same_front i (omega arith) in
      take-suc a i false (omega (arith, ca.whole)) ∙ ap (λ t. t ++ get_or a i false ∷ []) front
      ∙ ap (λ x. take i b ++ x ∷ []) (same_bit i (omega arith) front)
      ∙ sym (take-suc b i false (omega (arith, cb.whole)))

  pub one_choice : a ≡ b
  one_choice =
      sym (take_all (length past.assignments) a (omega (arith, ca.whole)))
      ∙ same_front (length past.assignments) (omega arith)
      ∙ take_all (length past.assignments) b (omega (arith, cb.whole))

-- ---- one assignment more

module _ (past : LocalsPast) (chosen : List Bool) (assignment : Assignment) (b : Bool)
    (choice : IsLocalsChoice past chosen)
    (kept : IsTrue b ↔ IsKeptAssignment past.dynvarsize past.assignments chosen assignment) where
  abbrev Right-at : ℕ → Assignment → Type 0
  Right-at i a =
      IsTrue (get_or (chosen ++ b ∷ []) i false)
      ↔ IsKeptAssignment past.dynvarsize (take i (past.assignments ++ assignment ∷ [])) (take i (chosen ++ b ∷ [])) a

  choice_before : (i : ℕ) (a : Assignment) → i < length past.assignments
      → slice_get (past.assignments ++ assignment ∷ []) i ≡ Some a → Right-at i a
  choice_before i a h at =
      rw (
        get_or-push chosen b false i (omega (arith, choice.whole)),
        take-append-le i past.assignments (assignment ∷ []) (omega arith),
        take-append-le i chosen (b ∷ []) (omega (arith, choice.whole)),
      )
      (choice.exactly i a (sym (get-push past.assignments assignment i h) ∙ at))

  choice_last : (i : ℕ) (a : Assignment) → i ≡ length past.assignments
      → slice_get (past.assignments ++ assignment ∷ []) i ≡ Some a → Right-at i a
  choice_last i a n at =
      let known : assignment ≡ a = (let both : Some assignment ≡ Some a =
      sym (get-last past.assignments assignment i n) ∙ at in cc both) in
      rw (
        get_or-last chosen b false i (omega (arith, choice.whole)),
        take-append-le i past.assignments (assignment ∷ []) (omega arith),
        take-append-le i chosen (b ∷ []) (omega (arith, choice.whole)),
        take-whole past.assignments i n,
        take-whole chosen i (omega (arith, choice.whole)),
      )
      (subst (λ x. IsTrue b ↔ IsKeptAssignment past.dynvarsize past.assignments chosen x) known kept)

  pub choice_more : IsLocalsChoice (locals_after past assignment) (chosen ++ b ∷ [])
  choice_more = record {
    whole = omega (arith, length_push chosen b, length_push past.assignments assignment, choice.whole);
    exactly = λ i a at. ⊎_elim
        (λ n. choice_last i a n at)
        (λ ne. choice_before i a
        (omega (
          arith,
          length_push past.assignments assignment,
          slice_get_within (past.assignments ++ assignment ∷ []) i a at,
        )) at)
        (cases_eq i (length past.assignments));
  }

-- ---- some choice

-- the test of what is kept tells it
pub kept_exactly : (dynvarsize : ℕ) (assignments : List Assignment) (chosen : List Bool) (assignment : Assignment)
    → IsTrue (is_kept_assignment dynvarsize assignments chosen assignment)
    ↔ IsKeptAssignment dynvarsize assignments chosen assignment
kept_exactly dynvarsize assignments chosen assignment =
    let zero = int_eq assignment.value (pos 0) in
    let was = local_value assignments chosen assignment.variable in
    let cost = local_size * (set_count assignments chosen + 1) in (
      (λ kept. ⊎_elim
          (λ yes. inl ((Decides-int_eq assignment.value (pos 0)).0 yes))
          (λ other. ⊎_elim
          (λ yes. inr (inl (set_is was yes)))
          (λ fits. inr (inr (leb-true cost dynvarsize fits)))
          (or_cases (is_set was) (nat_le cost dynvarsize) other))
          (or_cases zero (is_set was || nat_le cost dynvarsize) kept)),
      (λ kept. ⊎_elim
          (λ yes. ap (λ b. b || (is_set was || nat_le cost dynvarsize)) ((Decides-int_eq assignment.value (pos 0)).1 yes))
          (λ other. ⊎_elim
          (λ set. ap (λ b. zero || (b || nat_le cost dynvarsize)) (set_yes was set) ∙ or-true zero)
          (λ fits. ap (λ b. zero || (is_set was || b)) (le-leb cost dynvarsize fits)
          ∙ ap (λ b. zero || b) (or-true (is_set was)) ∙ or-true zero)
          other)
          kept),
    )

abbrev Of : ℕ → List Assignment → LocalsPast
Of dynvarsize assignments = record { dynvarsize = dynvarsize; assignments = assignments }

-- the choice, one assignment longer
abbrev Step : ℕ → List Assignment → List Bool → Assignment → List Bool
Step dynvarsize assignments chosen assignment =
    chosen ++ is_kept_assignment dynvarsize (take (length chosen) assignments) chosen assignment ∷ []

choice_from : (dynvarsize : ℕ) (done rest : List Assignment) (chosen : List Bool)
    → IsLocalsChoice (Of dynvarsize done) chosen
    → IsLocalsChoice (Of dynvarsize (done ++ rest)) (fold (Step dynvarsize (done ++ rest)) chosen rest)
choice_from dynvarsize done [] chosen choice =
    subst (λ xs. IsLocalsChoice (Of dynvarsize xs) chosen) (sym (append-nil done)) choice
choice_from dynvarsize done (assignment ∷ rest) chosen choice =
    let all = done ++ assignment ∷ rest in
    let before : take (length chosen) all ≡ done =
    take-append-le (length chosen) done (assignment ∷ rest) (omega (arith, choice.whole))
    ∙ take-whole done (length chosen) choice.whole in
    let b = is_kept_assignment dynvarsize (take (length chosen) all) chosen assignment in
    let kept : IsTrue b ↔ IsKeptAssignment dynvarsize done chosen assignment =
    subst (λ xs. IsTrue (is_kept_assignment dynvarsize xs chosen assignment)
    ↔ IsKeptAssignment dynvarsize done chosen assignment) (sym before)
    (kept_exactly dynvarsize done chosen assignment) in
    subst (λ xs. IsLocalsChoice (Of dynvarsize xs) (fold (Step dynvarsize xs) (chosen ++ b ∷ []) rest))
    (append_assoc done (assignment ∷ []) rest)
    (choice_from dynvarsize (done ++ assignment ∷ []) rest (chosen ++ b ∷ [])
    (choice_more (Of dynvarsize done) chosen assignment b choice kept))

pub no_choice : (dynvarsize : ℕ) → IsLocalsChoice (Of dynvarsize []) []
no_choice dynvarsize = record {
  whole = refl;
  exactly =
      λ i assignment e. absurd (omega (arith, slice_get_within [] i assignment e));
}

pub is_choice : (past : LocalsPast) → IsLocalsChoice past (locals_choice past)
unfolding locals_choice
is_choice past = choice_from past.dynvarsize [] past.assignments [] (no_choice past.dynvarsize)

-- the choice of a past that is one assignment longer
pub locals_choice-after : (past : LocalsPast) (assignment : Assignment)
    → locals_choice (locals_after past assignment)
    ≡ locals_choice past
    ++ is_kept_assignment past.dynvarsize past.assignments (locals_choice past) assignment ∷ []
locals_choice-after past assignment =
    let chosen = locals_choice past in
    let b = is_kept_assignment past.dynvarsize past.assignments chosen assignment in
    one_choice (locals_after past assignment) (locals_choice (locals_after past assignment)) (chosen ++ b ∷ [])
    (is_choice (locals_after past assignment))
    (choice_more past chosen assignment b (is_choice past)
    (kept_exactly past.dynvarsize past.assignments chosen assignment))

-- the choice of a past that is some assignments longer begins with that of the past
pub locals_choice-then : (assignments : List Assignment) (past : LocalsPast)
    → (more : List Bool) × (length more ≡ length assignments)
    × (locals_choice (locals_then past assignments) ≡ locals_choice past ++ more)
locals_choice-then [] past = (
  [],
  refl,
  ap (λ l. locals_choice (Of past.dynvarsize l)) (append-nil past.assignments) ∙ sym (append-nil (locals_choice past)),
)
locals_choice-then (assignment ∷ assignments) past =
    let b = is_kept_assignment past.dynvarsize past.assignments (locals_choice past) assignment in
    let rest = locals_choice-then assignments (locals_after past assignment) in (
      b ∷ rest.0,
      ap suc rest.1,
      ap (λ l. locals_choice (Of past.dynvarsize l)) (sym (append_assoc past.assignments (assignment ∷ []) assignments))
          ∙ rest.2 ∙ ap (λ c. c ++ rest.0) (locals_choice-after past assignment)
          ∙ append_assoc (locals_choice past) (b ∷ []) rest.0,
    )
