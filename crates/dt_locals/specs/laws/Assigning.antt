-- What one more assignment does to the values, and to how many aren't 0.
use Rattle.std.proofs.Common.{◌≡◌, ℕ, ◌+◌, Bool, true, false, cond, ◌||◌, ⊎_elim, List, [], ◌∷◌, ◌++◌, length, Some, refl}
use Rattle.std.proofs.Common.{sym, ap, ◌∙◌, subst, arith}
use Rattle.std.specs.Prelude.{pos, not, zip, filter, count_by}
use Rattle.std.specs.List.{list_any, IsDistinct, AllByRecursion}
use Rattle.std.proofs.lemmas.Bool.{cases_Bool, or_parts}
use Rattle.std.proofs.lemmas.List.{append-nil}
use Rattle.std.proofs.lemmas.List.Elements.{filter-append}
use Rattle.std.proofs.lemmas.List.Folds.{list_any-append}
use Rattle.std.proofs.lemmas.List.Sums.{sum_by-append, sum_by-cons}
use Rattle.dt_locals.specs.History.{Assignment, same_local}
use Rattle.dt_locals.specs.Values.{assigns, last_assignment, given_by, local_value, assigned_locals, is_set, set_count}
use Rattle.dt_locals.specs.declared.variable.LocalVariable.{LocalVariable}
use Rattle.dt_locals.specs.laws.Same.{local_is, local_same, set_no}

-- ---- lists

module _ {X : Type 0} (p : X → Bool) (x : X) (xs : List X) where
  filter_yes : p x ≡ true → filter p (x ∷ xs) ≡ x ∷ filter p xs
  filter_yes e = ap (λ b. cond b (x ∷ filter p xs) (filter p xs)) e

  filter_no : p x ≡ false → filter p (x ∷ xs) ≡ filter p xs
  filter_no e = ap (λ b. cond b (x ∷ filter p xs) (filter p xs)) e

last_assignment-push : (places : List (Assignment × Bool)) (place : Assignment × Bool)
    → last_assignment (places ++ place ∷ []) ≡ Some place
last_assignment-push [] place = refl
last_assignment-push (one ∷ []) place = refl
last_assignment-push (one ∷ other ∷ places) place = last_assignment-push (other ∷ places) place

zip-push : (assignments : List Assignment) (chosen : List Bool) (assignment : Assignment) (b : Bool)
    → length chosen ≡ length assignments
    → zip (assignments ++ assignment ∷ []) (chosen ++ b ∷ []) ≡ zip assignments chosen ++ (assignment, b) ∷ []
zip-push [] [] assignment b same = refl
zip-push [] (c ∷ chosen) assignment b same = absurd (omega arith)
zip-push (a ∷ assignments) [] assignment b same = absurd (omega arith)
zip-push (a ∷ assignments) (c ∷ chosen) assignment b same =
    ap (λ rest. (a, c) ∷ rest) (zip-push assignments chosen assignment b (omega arith))

-- ---- values

abbrev Of-local : LocalVariable → Assignment × Bool → Bool
Of-local variable place = assigns variable place.0

pub local_value-push : (assignments : List Assignment) (chosen : List Bool) (assignment : Assignment) (b : Bool)
    (variable : LocalVariable) → length chosen ≡ length assignments
    → local_value (assignments ++ assignment ∷ []) (chosen ++ b ∷ []) variable
    ≡ cond (same_local assignment.variable variable) (cond b assignment.value (pos 0))
    (local_value assignments chosen variable)
local_value-push assignments chosen assignment b variable same =
    let own = Of-local variable in
    let was = local_value assignments chosen variable in
    let gives = cond b assignment.value (pos 0) in
    let front = filter own (zip assignments chosen) in
    ap (λ xs. given_by (last_assignment (filter own xs))) (zip-push assignments chosen assignment b same)
    ∙ ap (λ xs. given_by (last_assignment xs)) (filter-append own (zip assignments chosen) ((assignment, b) ∷ []))
    ∙ ⊎_elim
    (λ yes. ap (λ xs. given_by (last_assignment (front ++ xs))) (filter_yes own (assignment, b) [] yes)
    ∙ ap given_by (last_assignment-push front (assignment, b))
    ∙ sym (ap (λ t. cond t gives was) yes))
    (λ no. ap (λ xs. given_by (last_assignment (front ++ xs))) (filter_no own (assignment, b) [] no)
    ∙ ap (λ xs. given_by (last_assignment xs)) (append-nil front)
    ∙ sym (ap (λ t. cond t gives was) no))
    (cases_Bool (same_local assignment.variable variable))

unassigned : (variable : LocalVariable) (assignments : List Assignment) (chosen : List Bool)
    → list_any (assigns variable) assignments ≡ false → filter (Of-local variable) (zip assignments chosen) ≡ []
unassigned variable [] chosen none = refl
unassigned variable (a ∷ assignments) [] none = refl
unassigned variable (a ∷ assignments) (c ∷ chosen) none = ⊎_elim
    (λ yes. absurd (let no : true ≡ false = sym (ap (λ t. t || list_any (assigns variable) assignments) yes) ∙ none in cc))
    (λ no. filter_no (Of-local variable) (a, c) (zip assignments chosen) no
    ∙ unassigned variable assignments chosen
    (sym (ap (λ t. t || list_any (assigns variable) assignments) no) ∙ none))
    (cases_Bool (same_local a.variable variable))

-- a test is the same both ways
other_way : (a b : LocalVariable) → same_local a b ≡ false → same_local b a ≡ false
other_way a b apart = ⊎_elim
    (λ same. absurd (let no : true ≡ false = sym (local_same a b (sym (local_is b a same))) ∙ apart in cc))
    (λ no. no)
    (cases_Bool (same_local b a))

-- ---- how many

abbrev Others : LocalVariable → LocalVariable → Bool
Others variable other = not (same_local variable other)

-- the variables that were assigned after one assignment more
assigned-push : (assignments : List Assignment) (assignment : Assignment)
    → assigned_locals (assignments ++ assignment ∷ [])
    ≡ filter (Others assignment.variable) (assigned_locals assignments) ++ assignment.variable ∷ []
assigned-push [] assignment = refl
assigned-push (a ∷ later) assignment =
    let own = assigns a.variable in
    let others = filter (Others assignment.variable) (assigned_locals later) in
    let more = assigned-push later assignment in
    ap (λ t. cond t (assigned_locals (later ++ assignment ∷ [])) (a.variable ∷ assigned_locals (later ++ assignment ∷ [])))
    (list_any-append own later (assignment ∷ []))
    ∙ ⊎_elim
    (λ again. ap (λ t. cond (t || list_any own (assignment ∷ [])) (assigned_locals (later ++ assignment ∷ []))
    (a.variable ∷ assigned_locals (later ++ assignment ∷ []))) again
    ∙ more
    ∙ sym (ap (λ t. filter (Others assignment.variable) (cond t (assigned_locals later) (a.variable ∷ assigned_locals later))
    ++ assignment.variable ∷ []) again))
    (λ once. ap (λ t. cond (t || list_any own (assignment ∷ [])) (assigned_locals (later ++ assignment ∷ []))
    (a.variable ∷ assigned_locals (later ++ assignment ∷ []))) once
    ∙ ⊎_elim
    (λ same. ap (λ t. cond (t || false) (assigned_locals (later ++ assignment ∷ []))
    (a.variable ∷ assigned_locals (later ++ assignment ∷ []))) same
    ∙ more
    ∙ sym (ap (λ xs. xs ++ assignment.variable ∷ [])
    (filter_no (Others assignment.variable) a.variable (assigned_locals later) (ap not same))))
    (λ apart. ap (λ t. cond (t || false) (assigned_locals (later ++ assignment ∷ []))
    (a.variable ∷ assigned_locals (later ++ assignment ∷ []))) apart
    ∙ ap (λ xs. a.variable ∷ xs) more
    ∙ sym (ap (λ xs. xs ++ assignment.variable ∷ [])
    (filter_yes (Others assignment.variable) a.variable (assigned_locals later) (ap not apart))))
    (cases_Bool (same_local assignment.variable a.variable))
    ∙ sym (ap (λ t. filter (Others assignment.variable) (cond t (assigned_locals later) (a.variable ∷ assigned_locals later))
    ++ assignment.variable ∷ []) once))
    (cases_Bool (list_any own later))

abbrev pub Bit : Bool → ℕ
Bit b = cond b 1 0

abbrev One : (LocalVariable → Bool) → LocalVariable → ℕ
One p variable = cond (p variable) 1 0

module _ (p q : LocalVariable → Bool) where
  -- the others are counted as before
  others_alike : (variable : LocalVariable)
      → ((other : LocalVariable) → same_local variable other ≡ false → p other ≡ q other)
      → (xs : List LocalVariable)
      → count_by p (filter (Others variable) xs) ≡ count_by q (filter (Others variable) xs)
  others_alike variable alike [] = refl
  others_alike variable alike (x ∷ xs) = ⊎_elim
      (λ same. ap (count_by p) (filter_no (Others variable) x xs (ap not same)) ∙ others_alike variable alike xs
      ∙ sym (ap (count_by q) (filter_no (Others variable) x xs (ap not same))))
      (λ apart.
      let rest = filter (Others variable) xs in
      ap (count_by p) (filter_yes (Others variable) x xs (ap not apart))
      ∙ sum_by-cons (λ v. cond (p v) 1 0) x rest
      ∙ ap (λ t. cond t 1 0 + count_by p rest) (alike x apart)
      ∙ ap (λ n. cond (q x) 1 0 + n) (others_alike variable alike xs)
      ∙ sym (sum_by-cons (λ v. cond (q v) 1 0) x rest)
      ∙ sym (ap (count_by q) (filter_yes (Others variable) x xs (ap not apart))))
      (cases_Bool (same_local variable x))

module _ (p : LocalVariable → Bool) (variable : LocalVariable) where
  abbrev Own : Bool → ℕ
  Own t = cond t (cond (p variable) 1 0) 0

  -- a variable that was assigned is counted once
  counted_once : (assignments : List Assignment)
      → count_by p (assigned_locals assignments)
      ≡ count_by p (filter (Others variable) (assigned_locals assignments))
      + Own (list_any (assigns variable) assignments)
  counted_once [] = omega arith
  counted_once (a ∷ later) =
      let all = assigned_locals later in
      let more = counted_once later in
      let Goal : Bool → Bool → Type 0 = λ again same.
      count_by p (cond again all (a.variable ∷ all))
      ≡ count_by p (filter (Others variable) (cond again all (a.variable ∷ all)))
      + Own (same || list_any (assigns variable) later) in
      ⊎_elim
      (λ same.
      let one : a.variable ≡ variable = local_is a.variable variable same in
      let among : list_any (assigns a.variable) later ≡ list_any (assigns variable) later =
      ap (λ v. list_any (assigns v) later) one in
      subst (λ t. Goal (list_any (assigns a.variable) later) t) (sym same)
      (⊎_elim
      (λ again. subst (λ t. Goal t true) (sym again)
      (more ∙ ap (λ t. count_by p (filter (Others variable) all) + Own t) (sym among ∙ again)))
      (λ once. subst (λ t. Goal t true) (sym once)
      (let none : count_by p all ≡ count_by p (filter (Others variable) all) + 0 =
      more ∙ ap (λ t. count_by p (filter (Others variable) all) + Own t) (sym among ∙ once) in
      let gone : count_by p (filter (Others variable) (a.variable ∷ all)) ≡ count_by p (filter (Others variable) all) =
      ap (count_by p) (filter_no (Others variable) a.variable all (ap not (local_same variable a.variable (sym one)))) in
      let own : One p a.variable ≡ One p variable = ap (One p) one in
      omega (arith, sum_by-cons (λ v. cond (p v) 1 0) a.variable all, none, gone, own)))
      (cases_Bool (list_any (assigns a.variable) later))))
      (λ apart. subst (λ t. Goal (list_any (assigns a.variable) later) t) (sym apart)
      (⊎_elim
      (λ again. subst (λ t. Goal t false) (sym again) more)
      (λ once. subst (λ t. Goal t false) (sym once)
      (let kept : filter (Others variable) (a.variable ∷ all) ≡ a.variable ∷ filter (Others variable) all =
      filter_yes (Others variable) a.variable all (ap not (other_way a.variable variable apart)) in
      let counted : count_by p (filter (Others variable) (a.variable ∷ all))
      ≡ cond (p a.variable) 1 0 + count_by p (filter (Others variable) all) =
      ap (count_by p) kept ∙ sum_by-cons (λ v. cond (p v) 1 0) a.variable (filter (Others variable) all) in
      omega (arith, sum_by-cons (λ v. cond (p v) 1 0) a.variable all, more, counted)))
      (cases_Bool (list_any (assigns a.variable) later))))
      (cases_Bool (same_local a.variable variable))

-- a variable more that isn't 0, or one fewer
pub set_count-push : (assignments : List Assignment) (chosen : List Bool) (assignment : Assignment) (b : Bool)
    → length chosen ≡ length assignments
    → set_count (assignments ++ assignment ∷ []) (chosen ++ b ∷ [])
    + cond (is_set (local_value assignments chosen assignment.variable)) 1 0
    ≡ set_count assignments chosen + cond (is_set (cond b assignment.value (pos 0))) 1 0
set_count-push assignments chosen assignment b same =
    let v = assignment.variable in
    let was : LocalVariable → Bool = λ o. is_set (local_value assignments chosen o) in
    let is : LocalVariable → Bool = λ o. is_set (local_value (assignments ++ assignment ∷ []) (chosen ++ b ∷ []) o) in
    let gives = cond b assignment.value (pos 0) in
    let all = assigned_locals assignments in
    let now : (o : LocalVariable) → is o ≡ is_set (cond (same_local v o) gives (local_value assignments chosen o)) =
    λ o. ap is_set (local_value-push assignments chosen assignment b o same) in
    let own : is v ≡ is_set gives =
    now v ∙ ap (λ t. is_set (cond t gives (local_value assignments chosen v))) (local_same v v refl) in
    let longer : count_by is (assigned_locals (assignments ++ assignment ∷ []))
    ≡ count_by is (filter (Others v) all) + cond (is v) 1 0 =
    ap (count_by is) (assigned-push assignments assignment)
    ∙ sum_by-append (λ o. cond (is o) 1 0) (filter (Others v) all) (v ∷ []) ∙ omega arith in
    let rest : count_by is (filter (Others v) all) ≡ count_by was (filter (Others v) all) =
    others_alike is was v (λ o apart. now o ∙ ap (λ t. is_set (cond t gives (local_value assignments chosen o))) apart) all in
    let before = counted_once was v assignments in
    let one : Own was v (list_any (assigns v) assignments) ≡ One was v = ⊎_elim
    (λ yes. ap (Own was v) yes)
    (λ no. ap (Own was v) no
    ∙ sym (ap Bit (set_no (local_value assignments chosen v)
    (ap (λ xs. given_by (last_assignment xs)) (unassigned v assignments chosen no)))))
    (cases_Bool (list_any (assigns v) assignments)) in
    let set : One is v ≡ Bit (is_set gives) = ap Bit own in
    omega (arith, longer, rest, before, one, set)

-- ---- each once

none_same : (variable : LocalVariable) (assignments : List Assignment)
    → list_any (assigns variable) assignments ≡ false
    → AllByRecursion (λ other. same_local variable other ≡ false) (assigned_locals assignments)
none_same variable [] none = tt
none_same variable (a ∷ later) none =
    let parts = or_parts (same_local a.variable variable) (list_any (assigns variable) later) none in
    let rest = none_same variable later parts.1 in
    ⊎_elim
    (λ again. subst (λ t. AllByRecursion (λ other. same_local variable other ≡ false)
    (cond t (assigned_locals later) (a.variable ∷ assigned_locals later))) (sym again) rest)
    (λ once. subst (λ t. AllByRecursion (λ other. same_local variable other ≡ false)
    (cond t (assigned_locals later) (a.variable ∷ assigned_locals later))) (sym once)
    (other_way a.variable variable parts.0, rest))
    (cases_Bool (list_any (assigns a.variable) later))

pub assigned_apart : (assignments : List Assignment) → IsDistinct same_local (assigned_locals assignments)
unfolding IsDistinct
assigned_apart [] = tt
assigned_apart (a ∷ later) = ⊎_elim
    (λ again. subst (λ t. IsDistinct same_local (cond t (assigned_locals later) (a.variable ∷ assigned_locals later)))
    (sym again) (assigned_apart later))
    (λ once. subst (λ t. IsDistinct same_local (cond t (assigned_locals later) (a.variable ∷ assigned_locals later)))
    (sym once) (none_same a.variable later once, assigned_apart later))
    (cases_Bool (list_any (assigns a.variable) later))

pub assigned_among : (assignments : List Assignment) (variable : LocalVariable)
    → list_any (λ other. same_local other variable) (assigned_locals assignments)
    ≡ list_any (assigns variable) assignments
assigned_among [] variable = refl
assigned_among (a ∷ later) variable =
    let is : LocalVariable → Bool = λ other. same_local other variable in
    let own = same_local a.variable variable in
    let more : list_any is (assigned_locals later) ≡ list_any (assigns variable) later = assigned_among later variable in
    ⊎_elim
    (λ again. ap (λ t. list_any is (cond t (assigned_locals later) (a.variable ∷ assigned_locals later))) again ∙ more
    ∙ ⊎_elim
    (λ same. (sym (ap (λ v. list_any (assigns v) later) (local_is a.variable variable same)) ∙ again)
    ∙ sym (ap (λ t. t || list_any (assigns variable) later) same))
    (λ apart. sym (ap (λ t. t || list_any (assigns variable) later) apart))
    (cases_Bool own))
    (λ once. ap (λ t. list_any is (cond t (assigned_locals later) (a.variable ∷ assigned_locals later))) once
    ∙ ap (λ t. own || t) more)
    (cases_Bool (list_any (assigns a.variable) later))
