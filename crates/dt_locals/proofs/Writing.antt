-- A slot is written: a variable gets a value, or its slot is freed.
use Rattle.std.proofs.Common.{◌≡◌, ℕ, ◌<◌, ◌≤◌, ⊎_elim, ℤ, cond, List, length, set}
use Rattle.std.proofs.Common.{refl, sym, ap, ◌∙◌, subst, arith}
use Rattle.std.specs.Prelude.{◌≢◌, pos}
use Rattle.std.proofs.lemmas.Bool.{cases_eq}
use Rattle.std.proofs.lemmas.List.{get_or-set_same, get_or-set_other}
use Rattle.dt_locals.specs.History.{same_local}
use Rattle.dt_locals.specs.Slots.{free_slot, slot_at, value_at, local_at, HasValue, AreHashed, AreHashedBut, IsSlotFor}
use Rattle.dt_locals.specs.declared.slots.LocalSlot.{LocalSlot}
use Rattle.dt_locals.specs.declared.variable.LocalVariable.{LocalVariable}
use Rattle.dt_locals.specs.laws.Same.{local_same, local_other, one_or_two}
use Rattle.dt_locals.proofs.Hashing.{IsTaken, none_between, found_only}

abbrev Local-of : LocalSlot → LocalVariable
Local-of slot = slot.variable

abbrev Value-of : LocalSlot → ℤ
Value-of slot = slot.value

-- where two variables are one or two
pub by_local : (a b : LocalVariable) (x y : ℤ) (P : ℤ → Type 0) → (a ≡ b → P x) → (a ≢ b → P y)
    → P (cond (same_local a b) x y)
by_local a b x y P one two = ⊎_elim
    (λ e. subst (λ t. P (cond t x y)) (sym (local_same a b e)) (one e))
    (λ n. subst (λ t. P (cond t x y)) (sym (local_other a b n)) (two n))
    (one_or_two a b)

-- ---- a variable gets a value that isn't 0

module _ (home : LocalVariable → ℕ) (slots : List LocalSlot) (hashed : AreHashed home slots) (variable : LocalVariable)
    (place : ℕ) (found : IsSlotFor home slots variable place) (now : List LocalSlot) (value : ℤ) (given : value ≢ pos 0)
    (written : LocalSlot) (own_local : written.variable ≡ variable) (own_value : written.value ≡ value)
    (is : now ≡ set slots place written)
  where
    here : slot_at now place ≡ written
    here = ap (λ xs. slot_at xs place) is ∙ get_or-set_same slots place written free_slot found.within

    others : (k : ℕ) → k ≢ place → slot_at now k ≡ slot_at slots k
    others k n = ap (λ xs. slot_at xs k) is ∙ get_or-set_other slots place k written free_slot n

    local_here : (k : ℕ) → k ≡ place → local_at now k ≡ variable
    local_here k e = ap (λ p. local_at now p) e ∙ ap Local-of here ∙ own_local

    taken_here : (k : ℕ) → k ≡ place → value_at now k ≢ pos 0
    taken_here k e none = given (sym own_value ∙ sym (ap Value-of here) ∙ sym (ap (λ p. value_at now p) e) ∙ none)

    then_taken : (k : ℕ) → k ≢ place → value_at now k ≢ pos 0 → value_at slots k ≢ pos 0
    then_taken k n taken = subst IsTaken (others k n) taken

    now_taken : (k : ℕ) → value_at slots k ≢ pos 0 → value_at now k ≢ pos 0
    now_taken k taken = ⊎_elim (λ e. taken_here k e) (λ n. subst IsTaken (sym (others k n)) taken) (cases_eq k place)

    then_local : (k : ℕ) → k ≢ place → local_at now k ≡ local_at slots k
    then_local k n = ap Local-of (others k n)

    only_here : (k : ℕ) → value_at now k ≢ pos 0 → local_at now k ≡ variable → k ≡ place
    only_here k taken own = ⊎_elim
        (λ e. e)
        (λ n. found_only home slots hashed variable place found k (then_taken k n taken) (sym (then_local k n) ∙ own))
        (cases_eq k place)

    now_apart : (one other : ℕ) → value_at now one ≢ pos 0 → value_at now other ≢ pos 0
        → local_at now one ≡ local_at now other → one ≡ other
    now_apart one other t u same = ⊎_elim
        (λ e. e ∙ sym (only_here other u (sym same ∙ local_here one e)))
        (λ n. ⊎_elim
        (λ f. only_here one t (same ∙ local_here other f) ∙ sym f)
        (λ m. hashed.apart one other (then_taken one n t) (then_taken other m u)
        (sym (then_local one n) ∙ same ∙ then_local other m))
        (cases_eq other place))
        (cases_eq one place)

    now_from : (k : ℕ) → value_at now k ≢ pos 0 → home (local_at now k) ≤ k
    now_from k t = ⊎_elim
        (λ e. subst (λ v. home v ≤ k) (sym (local_here k e)) (subst (λ p. home variable ≤ p) (sym e) found.from))
        (λ n. subst (λ v. home v ≤ k) (sym (then_local k n)) (hashed.from k (then_taken k n t)))
        (cases_eq k place)

    now_between : (k passed : ℕ) → value_at now k ≢ pos 0 → home (local_at now k) ≤ passed → passed ≤ k
        → value_at now passed ≢ pos 0
    now_between k passed t from le = ⊎_elim
        (λ f. taken_here passed f)
        (λ m. ⊎_elim
        (λ e. now_taken passed (found.passed passed (subst (λ v. home v ≤ passed) (local_here k e) from) (omega arith)).0)
        (λ n. now_taken passed (none_between home slots hashed k passed (then_taken k n t)
        (subst (λ v. home v ≤ passed) (then_local k n) from) le))
        (cases_eq k place))
        (cases_eq passed place)

    pub written_hashed : AreHashed home now
    written_hashed = record {
      apart = now_apart;
      from = now_from;
      between = λ k passed t from le _. now_between k passed t from le;
    }

    pub written_values : (other : LocalVariable) (was : ℤ) → HasValue slots other was
        → HasValue now other (cond (same_local variable other) value was)
    written_values other was has = by_local variable other value was (HasValue now other)
        (λ e. record {
          only = λ k t own. ap (λ p. value_at now p) (only_here k t (own ∙ sym e)) ∙ ap Value-of here ∙ own_value;
          some = λ _. (place, local_here place refl ∙ e, ap Value-of here ∙ own_value);
        })
        (λ n. record {
          only = λ k t own. ⊎_elim
              (λ e. absurd (n (sym (local_here k e) ∙ own)))
              (λ m. ap Value-of (others k m) ∙ has.only k (then_taken k m t) (sym (then_local k m) ∙ own))
              (cases_eq k place);
          some = λ set.
              let s = has.some set in
              let apart : s.0 ≢ place = λ e.
              ⊎_elim
              (λ free. set (sym s.2 ∙ ap (λ p. value_at slots p) e ∙ free))
              (λ own. n (sym own ∙ sym (ap (λ p. local_at slots p) e) ∙ s.1))
              found.here in
              (s.0, then_local s.0 apart ∙ s.1, ap Value-of (others s.0 apart) ∙ s.2);
        })

-- ---- a slot is freed

module _ (home : LocalVariable → ℕ) (slots : List LocalSlot) (hashed : AreHashed home slots) (place : ℕ)
    (within : place < length slots) (taken : value_at slots place ≢ pos 0) (now : List LocalSlot) (freed : LocalSlot)
    (none : freed.value ≡ pos 0) (is : now ≡ set slots place freed)
  where
    gone : slot_at now place ≡ freed
    gone = ap (λ xs. slot_at xs place) is ∙ get_or-set_same slots place freed free_slot within

    rest : (k : ℕ) → k ≢ place → slot_at now k ≡ slot_at slots k
    rest k n = ap (λ xs. slot_at xs k) is ∙ get_or-set_other slots place k freed free_slot n

    pub freed_free : value_at now place ≡ pos 0
    freed_free = ap Value-of gone ∙ none

    other_place : (k : ℕ) → value_at now k ≢ pos 0 → k ≢ place
    other_place k t e = t (ap (λ p. value_at now p) e ∙ freed_free)

    was_taken : (k : ℕ) → value_at now k ≢ pos 0 → value_at slots k ≢ pos 0
    was_taken k t = subst IsTaken (rest k (other_place k t)) t

    was_local : (k : ℕ) → value_at now k ≢ pos 0 → local_at now k ≡ local_at slots k
    was_local k t = ap Local-of (rest k (other_place k t))

    pub freed_hashed : AreHashedBut home now place
    freed_hashed = record {
      apart = λ one other t u same. hashed.apart one other (was_taken one t) (was_taken other u)
          (sym (was_local one t) ∙ same ∙ was_local other u);
      from = λ k t. subst (λ v. home v ≤ k) (sym (was_local k t)) (hashed.from k (was_taken k t));
      between = λ k passed t from le n. subst IsTaken (sym (rest passed n))
          (none_between home slots hashed k passed (was_taken k t) (subst (λ v. home v ≤ passed) (was_local k t) from) le);
    }

    pub freed_values : (other : LocalVariable) (was : ℤ) → HasValue slots other was
        → HasValue now other (cond (same_local (local_at slots place) other) (pos 0) was)
    freed_values other was has = by_local (local_at slots place) other (pos 0) was (HasValue now other)
        (λ e. record {
          only = λ k t own. absurd (other_place k t (hashed.apart k place (was_taken k t) taken
              (sym (was_local k t) ∙ own ∙ sym e)));
          some = λ no. absurd (no refl);
        })
        (λ n. record {
          only = λ k t own. ap Value-of (rest k (other_place k t)) ∙ has.only k (was_taken k t) (sym (was_local k t) ∙ own);
          some = λ set.
              let s = has.some set in
              let apart : s.0 ≢ place = λ e. n (sym (ap (λ p. local_at slots p) e) ∙ s.1) in
              (s.0, ap Local-of (rest s.0 apart) ∙ s.1, ap Value-of (rest s.0 apart) ∙ s.2);
        })
