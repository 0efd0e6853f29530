-- Whom lists have after one of them was changed for one seat.
use Rattle.std.proofs.Common.{◌≡◌, ◌≢◌, ◌↔◌, ℕ, ◌<◌, ◌≤◌, Bool, true, false, IsTrue, cond, eqb, List, Some, length, ap, sym}
use Rattle.std.proofs.Common.{◌∙◌, arith, ⊎_elim, set, get_or, subst, refl, zero, suc, [], ◌∷◌, ◌++◌, replicate, take}
use Rattle.std.proofs.lemmas.Bool.{cases_eq, eq-eqb, ne_eqb}
use Rattle.std.proofs.lemmas.Grind.{common_steps}
use Rattle.std.proofs.lemmas.List.{take_all}
use Rattle.std.proofs.lemmas.Option.{gets, slice_get-get_or, slice_get_past}
use Rattle.std.specs.List.{slice_get}
use Rattle.std.specs.Option.{option_map_or}
use Rattle.dt_chain.specs.declared.seat_set.SeatSet.{SeatSet}
use Rattle.dt_chain.specs.Listed.{is_listed_for}
use Rattle.dt_chain.specs.Seats.{has}

get-set_same : {A : Type 0} (xs : List A) (i : ℕ) (v : A) → i < length xs → slice_get (set xs i v) i ≡ Some v
get-set_same xs i v h = grind (arith, common_steps, gets)

get-set_other : {A : Type 0} (xs : List A) (i p : ℕ) (v : A) → p ≢ i → slice_get (set xs i v) p ≡ slice_get xs p
get-set_other xs i p v h = grind (arith, common_steps, gets)

-- a test that is the same says the same
pub along : (test other : Bool) (P : Type 0) → test ≡ other → (IsTrue other ↔ P) → (IsTrue test ↔ P)
along test other P e h = (λ t. h.0 (sym e ∙ t), λ p. e ∙ h.1 p)

-- the list of one probe has or lacks one seat as the flag says, and all else is as it was
pub record Changed (old new : List SeatSet) (probe seat : ℕ) (flag : Bool) : Type 0 where
  pub own : is_listed_for new probe seat ≡ flag
  pub elsewhere : (at other : ℕ) → at ≢ probe → is_listed_for new at other ≡ is_listed_for old at other
  pub others : (at other : ℕ) → other ≢ seat → is_listed_for new at other ≡ is_listed_for old at other

pub changed_one : (lists : List SeatSet) (probe seat : ℕ) (flag : Bool) (seats empty : SeatSet) → probe < length lists
    → ((other : ℕ) → has seats other
    ≡ cond (eqb other seat) flag (has (get_or lists probe empty) other))
    → Changed lists (set lists probe seats) probe seat flag
changed_one lists probe seat flag seats empty within changes =
    let here : slice_get (set lists probe seats) probe ≡ Some seats = get-set_same lists probe seats within in
    let was : slice_get lists probe ≡ Some (get_or lists probe empty) =
    slice_get-get_or lists probe empty within in
    let same : (other : ℕ) → other ≢ seat
    → is_listed_for (set lists probe seats) probe other ≡ is_listed_for lists probe other =
    λ other ne.
    ap (λ o. option_map_or (λ s. has s other) o false) here
    ∙ changes other
    ∙ ap (λ b. cond b flag (has (get_or lists probe empty) other)) (ne_eqb other seat ne)
    ∙ sym (ap (λ o. option_map_or (λ s. has s other) o false) was) in
    let elsewhere : (at other : ℕ) → at ≢ probe
    → is_listed_for (set lists probe seats) at other ≡ is_listed_for lists at other =
    λ at other ne. ap (λ o. option_map_or (λ s. has s other) o false) (get-set_other lists probe at seats ne) in
    record {
      own =
          ap (λ o. option_map_or (λ s. has s seat) o false) here
          ∙ changes seat
          ∙ ap (λ b. cond b flag (has (get_or lists probe empty) seat)) (eq-eqb seat seat refl);
      elsewhere = elsewhere;
      others = λ at other ne.
          ⊎_elim
          (λ (e : at ≡ probe).
          let P : ℕ → Type 0 = λ p. is_listed_for (set lists probe seats) p other ≡ is_listed_for lists p other in
          subst P (sym e) (same other ne))
          (λ (away : at ≢ probe). elsewhere at other away)
          (cases_eq at probe);
    }

-- a flag of each element of a list, and none past its end
abbrev pub flag_at : {A : Type 0} → (A → Bool) → List A → ℕ → Bool
flag_at flag xs place = option_map_or flag (slice_get xs place) false

copies : {A : Type 0} (flag : A → Bool) (count place : ℕ) (x : A) → flag x ≡ false
    → flag_at flag (replicate count x) place ≡ false
copies flag zero place x none = refl
copies flag (suc count) zero x none = none
copies flag (suc count) (suc place) x none = copies flag count place x none

-- elements after the others that have no flag change nothing
pub flag_at-longer : {A : Type 0} (flag : A → Bool) (xs : List A) (count place : ℕ) (x : A) → flag x ≡ false
    → flag_at flag (xs ++ replicate count x) place ≡ flag_at flag xs place
flag_at-longer flag [] count place x none = copies flag count place x none
flag_at-longer flag (y ∷ ys) count zero x none = refl
flag_at-longer flag (y ∷ ys) count (suc place) x none = flag_at-longer flag ys count place x none

-- nor does what stands past the end
pub flag_at-past : {A : Type 0} (flag : A → Bool) (xs : List A) (place : ℕ) → length xs ≤ place
    → flag_at flag xs place ≡ false
flag_at-past flag xs place far = ap (λ o. option_map_or flag o false) (slice_get_past xs place far)

-- after one element was changed
pub flag_at-set_same : {A : Type 0} (flag : A → Bool) (xs : List A) (place : ℕ) (x : A) → place < length xs
    → flag_at flag (set xs place x) place ≡ flag x
flag_at-set_same flag xs place x within = ap (λ o. option_map_or flag o false) (get-set_same xs place x within)

pub flag_at-set_other : {A : Type 0} (flag : A → Bool) (xs : List A) (place other : ℕ) (x : A) → other ≢ place
    → flag_at flag (set xs place x) other ≡ flag_at flag xs other
flag_at-set_other flag xs place other x ne =
    ap (λ o. option_map_or flag o false) (get-set_other xs place other x ne)

-- a list that was filled up with elements that have no flag, or that stayed where there was no memory
pub flag_at-resized : {A : Type 0} (flag : A → Bool) (done : Bool) (xs new : List A) (n count place : ℕ) (x : A)
    → flag x ≡ false → length xs ≤ n → new ≡ cond done (take n xs ++ replicate count x) xs
    → flag_at flag new place ≡ flag_at flag xs place
flag_at-resized flag false xs new n count place x none few is = ap (λ items. flag_at flag items place) is
flag_at-resized flag true xs new n count place x none few is =
    ap (λ items. flag_at flag items place) is
    ∙ ap (λ front. flag_at flag (front ++ replicate count x) place) (take_all n xs few)
    ∙ flag_at-longer flag xs count place x none
