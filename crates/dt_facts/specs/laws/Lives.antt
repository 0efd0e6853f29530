-- What lists of lives say of a life.
use Rattle.std.proofs.Common.{◌≡◌, ℕ, zero, suc, ◌+◌, ◌*◌, ◌≤◌, List, [], ◌∷◌, ◌++◌, length, slice_get, Some, refl, sym, ap, ◌∙◌, subst, arith}
use Rattle.std.proofs.lemmas.List.{length-append}
use mathlib.Core.List.{IsPrefix}
use Rattle.dt_cred.specs.declared.account.Account.{Account}
use Rattle.dt_trail.specs.declared.law.Named.{Named}
use Rattle.dt_facts.specs.declared.fact.LifeStep.{LifeStep}
use Rattle.dt_facts.specs.Lives.{opened, closed, lives_over, IsRowOfLife, IsOpenAs, AreClosed}

got_still : {A : Type 0} (xs rest : List A) (k : ℕ) (x : A) → slice_get xs k ≡ Some x → slice_get (xs ++ rest) k ≡ Some x
got_still [] rest k x e = cc
got_still (y ∷ xs) rest zero x e = e
got_still (y ∷ xs) rest (suc k) x e = got_still xs rest k x e

got_last : {A : Type 0} (xs : List A) (x : A) → slice_get (xs ++ x ∷ []) (length xs) ≡ Some x
got_last [] x = refl
got_last (y ∷ xs) x = got_last xs x

-- A longer list says of a life what a beginning of it said.
pub row_stays : (steps later : List LifeStep) (life : ℕ) (row : Named Account) → IsPrefix steps later → IsRowOfLife life row steps
    → IsRowOfLife life row later
row_stays steps later life row begins is =
    subst (λ (all : List LifeStep). IsRowOfLife life row all) begins.1 (got_still steps begins.0 (2 * life) (opened row) is)

-- No life that was over isn't.
pub over_stays : (steps later : List LifeStep) → IsPrefix steps later → lives_over steps ≤ lives_over later
over_stays steps later begins =
    let longer : length steps + length begins.0 ≡ length later = sym (length-append steps begins.0) ∙ ap length begins.1 in
    omega (arith, longer)

-- A life has one trail.
pub one_row : (steps : List LifeStep) (life : ℕ) (row other : Named Account) → IsRowOfLife life row steps → IsRowOfLife life other steps → row ≡ other
one_row steps life row other a b = cc

-- The next life opens.
pub life_opens : (steps : List LifeStep) (lives : ℕ) (row : Named Account) → AreClosed lives steps
    → IsOpenAs lives row (steps ++ opened row ∷ [])
life_opens steps lives row are = (
  length-append steps (opened row ∷ []) ∙ ap (λ (n : ℕ). n + 1) are,
  subst (λ (k : ℕ). slice_get (steps ++ opened row ∷ []) k ≡ Some (opened row)) are (got_last steps (opened row)),
)

-- The life that is open closes.
pub life_closes : (steps : List LifeStep) (life : ℕ) (row : Named Account) → IsOpenAs life row steps
    → AreClosed (life + 1) (steps ++ closed ∷ [])
life_closes steps life row is =
    let longer : length (steps ++ closed ∷ []) ≡ length steps + 1 = length-append steps (closed ∷ []) in
    omega (arith, longer, is.0)

-- Where a life is open, those before it are over; where none is, all are.
pub over_open : (steps : List LifeStep) (life : ℕ) (row : Named Account) → IsOpenAs life row steps → lives_over steps ≡ life
over_open steps life row is = omega (arith, is.0)

pub over_closed : (steps : List LifeStep) (lives : ℕ) → AreClosed lives steps → lives_over steps ≡ lives
over_closed steps lives are = omega (arith, are)
