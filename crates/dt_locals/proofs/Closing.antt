-- A hole is closed up: one slot after another moves into it, or stays.
use Rattle.std.proofs.Common.{◌≡◌, ℕ, ◌+◌, ◌<◌, ◌≤◌, ⊎_elim, ℤ, List}
use Rattle.std.proofs.Common.{sym, ap, ◌∙◌, subst, arith}
use Rattle.std.specs.Prelude.{◌≢◌, pos}
use Rattle.std.proofs.lemmas.Bool.{cases_eq, cases_order}
use Rattle.dt_locals.specs.Slots.{slot_at, value_at, local_at, HasValue, AreHashed, AreHashedBut}
use Rattle.dt_locals.specs.declared.slots.LocalSlot.{LocalSlot}
use Rattle.dt_locals.specs.declared.variable.LocalVariable.{LocalVariable}
use Rattle.dt_locals.proofs.Hashing.{IsTaken}

abbrev Local-of : LocalSlot → LocalVariable
Local-of slot = slot.variable

abbrev Value-of : LocalSlot → ℤ
Value-of slot = slot.value

-- Between a hole and a place all are taken, by variables whose homes are after the hole.
pub record AllStay (home : LocalVariable → ℕ) (slots : List LocalSlot) (hole place : ℕ) : Type 0 where
  pub stay : (k : ℕ) → hole < k → k < place → hole < home (local_at slots k)

pub none_stay : (home : LocalVariable → ℕ) (slots : List LocalSlot) (hole place : ℕ) → place ≡ hole + 1
    → AllStay home slots hole place
none_stay home slots hole place e = record { stay = λ k lt le. absurd (omega arith) }

pub one_stays : (home : LocalVariable → ℕ) (slots : List LocalSlot) (hole place : ℕ) → AllStay home slots hole place
    → hole < home (local_at slots place) → AllStay home slots hole (place + 1)
one_stays home slots hole place all one = record {
  stay = λ k lt le. ⊎_elim
      (λ e. subst (λ p. hole < home (local_at slots p)) (sym e) one)
      (λ n. all.stay k lt (omega arith))
      (cases_eq k place);
}

-- ---- one moves into the hole, and leaves one

module _ (home : LocalVariable → ℕ) (old now : List LocalSlot) (hole place : ℕ) (after : hole < place)
    (at_hole : slot_at now hole ≡ slot_at old place) (at_place : slot_at now place ≡ slot_at old hole)
    (others : (k : ℕ) → k ≢ hole → k ≢ place → slot_at now k ≡ slot_at old k) (free : value_at old hole ≡ pos 0)
    (taken : value_at old place ≢ pos 0)
  where
    pub moved_free : value_at now place ≡ pos 0
    moved_free = ap Value-of at_place ∙ free

    by_place : (k : ℕ) (P : Type 0) → value_at now k ≢ pos 0 → (k ≡ hole → P) → (k ≢ hole → k ≢ place → P) → P
    by_place k P t first other = ⊎_elim first
        (λ n. ⊎_elim (λ e. absurd (t (ap (λ p. value_at now p) e ∙ moved_free))) (λ m. other n m) (cases_eq k place))
        (cases_eq k hole)

    in_hole : (k : ℕ) → k ≡ hole → slot_at now k ≡ slot_at old place
    in_hole k e = ap (λ p. slot_at now p) e ∙ at_hole

    module _ (hashed : AreHashedBut home old hole) (fits : home (local_at old place) ≤ hole) where
      moved_apart : (one other : ℕ) → value_at now one ≢ pos 0 → value_at now other ≢ pos 0
          → local_at now one ≡ local_at now other → one ≡ other
      moved_apart one other t u same =
          by_place one (one ≡ other) t
          (λ e. by_place other (one ≡ other) u
          (λ f. e ∙ sym f)
          (λ n m. absurd (m (sym (hashed.apart place other taken (subst IsTaken (others other n m) u)
          (sym (ap Local-of (in_hole one e)) ∙ same ∙ ap Local-of (others other n m)))))))
          (λ n m. by_place other (one ≡ other) u
          (λ f. absurd (m (hashed.apart one place (subst IsTaken (others one n m) t) taken
          (sym (ap Local-of (others one n m)) ∙ same ∙ ap Local-of (in_hole other f)))))
          (λ q r. hashed.apart one other (subst IsTaken (others one n m) t) (subst IsTaken (others other q r) u)
          (sym (ap Local-of (others one n m)) ∙ same ∙ ap Local-of (others other q r))))

      moved_from : (k : ℕ) → value_at now k ≢ pos 0 → home (local_at now k) ≤ k
      moved_from k t =
          by_place k (home (local_at now k) ≤ k) t
          (λ e. subst (λ v. home v ≤ k) (sym (ap Local-of (in_hole k e)))
          (subst (λ p. home (local_at old place) ≤ p) (sym e) fits))
          (λ n m. subst (λ v. home v ≤ k) (sym (ap Local-of (others k n m)))
          (hashed.from k (subst IsTaken (others k n m) t)))

      moved_between : (k passed : ℕ) → value_at now k ≢ pos 0 → home (local_at now k) ≤ passed → passed ≤ k
          → passed ≢ place → value_at now passed ≢ pos 0
      moved_between k passed t from le apart = ⊎_elim
          (λ e. subst IsTaken (sym (in_hole passed e)) taken)
          (λ n. subst IsTaken (sym (others passed n apart))
          (by_place k (value_at old passed ≢ pos 0) t
          (λ e. hashed.between place passed taken (subst (λ v. home v ≤ passed) (ap Local-of (in_hole k e)) from)
          (omega arith) n)
          (λ q r. hashed.between k passed (subst IsTaken (others k q r) t)
          (subst (λ v. home v ≤ passed) (ap Local-of (others k q r)) from) le n)))
          (cases_eq passed hole)

      pub moved_hashed : AreHashedBut home now place
      moved_hashed = record { apart = moved_apart; from = moved_from; between = moved_between }

    pub moved_values : (variable : LocalVariable) (value : ℤ) → HasValue old variable value
        → HasValue now variable value
    moved_values variable value has = record {
      only = λ k t own.
          by_place k (value_at now k ≡ value) t
          (λ e. ap Value-of (in_hole k e) ∙ has.only place taken (sym (ap Local-of (in_hole k e)) ∙ own))
          (λ n m. ap Value-of (others k n m)
          ∙ has.only k (subst IsTaken (others k n m) t) (sym (ap Local-of (others k n m)) ∙ own));
      some = λ set.
          let s = has.some set in
          let apart : s.0 ≢ hole = λ e. set (sym s.2 ∙ ap (λ p. value_at old p) e ∙ free) in
          ⊎_elim {C = (k : ℕ) × (local_at now k ≡ variable) × (value_at now k ≡ value)}
          (λ e. (
            hole,
            ap Local-of at_hole ∙ sym (ap (λ p. local_at old p) e) ∙ s.1,
            ap Value-of at_hole ∙ sym (ap (λ p. value_at old p) e) ∙ s.2,
          ))
          (λ n. (s.0, ap Local-of (others s.0 apart n) ∙ s.1, ap Value-of (others s.0 apart n) ∙ s.2))
          (cases_eq s.0 place);
    }

-- ---- no more can move

-- what lies after a free slot has its home after it too
pub closed : (home : LocalVariable → ℕ) (slots : List LocalSlot) (hole place : ℕ) → hole < place
    → AreHashedBut home slots hole → value_at slots hole ≡ pos 0 → AllStay home slots hole place
    → value_at slots place ≡ pos 0 → AreHashed home slots
closed home slots hole place after hashed free all end = record {
  apart = hashed.apart;
  from = hashed.from;
  between = λ k passed t from le _. ⊎_elim
      (λ e.
      let here : k ≢ hole = λ f. t (ap (λ p. value_at slots p) f ∙ free) in
      ⊎_elim
      (λ f. absurd (t (ap (λ p. value_at slots p) f ∙ end)))
      (λ order. ⊎_elim
      (λ before. absurd (omega (arith, all.stay k (omega arith) before)))
      (λ later. absurd (hashed.between k place t (omega arith) (omega arith) (λ f. omega arith) end))
      order)
      (cases_order k place))
      (λ n. hashed.between k passed t from le n)
      (cases_eq passed hole);
}
