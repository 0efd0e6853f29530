-- What is pending, the last first.
use denote.Ref.{Bor}
use Rattle.std.proofs.Common.{◌≡◌, ℕ, ◌+◌, ◌-◌, Bool, true, false, ◌||◌, List, [], ◌∷◌, ◌++◌, map, reverse, length}
use Rattle.std.proofs.Common.{Option, Some, None, MatchOption, option_to_list, option_copied, take, vec_len, refl, sym}
use Rattle.std.proofs.Common.{ap, ◌∙◌, arith, if◌then◌else◌}
use Rattle.std.specs.List.{slice_get, list_any}
use Rattle.std.proofs.lemmas.List.{reverse-append, map-append, length-append, append-nil}
use Rattle.std.proofs.lemmas.List.Folds.{list_any-append}
use Rattle.std.proofs.Math.Dec.{leb-zero}
use Rattle.dt_lang.specs.declared.pending.PendingOperator.{PendingOperator}
use Rattle.dt_expr.specs.Form.{Form, Prefixed, Joined}
use Rattle.dt_expr.specs.declared.text.Text.{Text}
use Rattle.dt_lang.specs.Expression.{OPERAND}
use Rattle.dt_lang.specs.machine.ExpressionState.{PendingForm, opened, before, after, HandForm, whole, lone}
use Rattle.dt_lang.specs.machine.ExpressionState.{State, state, done, done_from, number_alone, text_alone, leave}
use Rattle.dt_lang.specs.machine.ExpressionState.{Closed, binds, is_bound, around, close, is_opened}
use Rattle.dt_lang.specs.laws.ExpressionSteps.{close_ends}
use Rattle.dt_lang.specs.machine.ExpressionView.{pending_form}
use Rattle.std.specs.Global.{Vec}

pub shown_push : (xs : List PendingOperator) (x : PendingOperator) → reverse (map pending_form (xs ++ x ∷ []))
    ≡ pending_form x ∷ reverse (map pending_form xs)
shown_push xs x = ap reverse (map-append pending_form xs (x ∷ [])) ∙ reverse-append (map pending_form xs) (pending_form x ∷ [])

-- a list from its end
pub record Last {A : Type 0} (xs : List A) : Type 0 where
  pub front : List A
  pub last : A
  pub all : xs ≡ front ++ last ∷ []

pub from_end : {A : Type 0} (x : A) (xs : List A) → Last (x ∷ xs)
from_end x [] = record { front = []; last = x; all = refl }
from_end {A} x (y ∷ xs) =
    let rest = from_end y xs in
    record { front = x ∷ rest.front; last = rest.last; all = ap (λ (l : List A). x ∷ l) rest.all }

pub slice_get_end : {A : Type 0} (front : List A) (x : A) → slice_get (front ++ x ∷ []) (length front) ≡ Some x
slice_get_end [] x = refl
slice_get_end (y ∷ front) x = slice_get_end front x

last_is : {A : Type 0} (x : A) (xs : List A) (e : Last (x ∷ xs))
    → slice_get (x ∷ xs) (length (x ∷ xs) - 1) ≡ Some e.last
last_is {A} x xs e =
    let size : length (x ∷ xs) - 1 ≡ length e.front =
    omega (arith, ap length e.all, length-append e.front (e.last ∷ [])) in
    ap (slice_get (x ∷ xs)) size ∙ ap (λ (l : List A). slice_get l (length e.front)) e.all
    ∙ slice_get_end e.front e.last

pub last_shown : (xs : List PendingOperator) (r : Option (Bor PendingOperator)) → option_copied r ≡ slice_get xs (length xs - 1)
    → MatchOption r (reverse (map pending_form xs) ≡ [])
    (λ x. (pending : List PendingForm) × (reverse (map pending_form xs) ≡ pending_form x.now ∷ pending))
last_shown [] None h = refl
last_shown [] (Some x) h = cc
last_shown (y ∷ xs) None h = let e = last_is y xs (from_end y xs) in cc (h, e)
last_shown (y ∷ xs) (Some x) h =
    let e = from_end y xs in
    let same : x.now ≡ e.last = cc (h, last_is y xs e) in (
      reverse (map pending_form e.front),
      ap (λ (l : List PendingOperator). reverse (map pending_form l)) e.all ∙ shown_push e.front e.last
          ∙ ap (λ (f : PendingOperator). pending_form f ∷ reverse (map pending_form e.front)) (sym same),
    )

pub pop_shown : (xs ys : List PendingOperator) (r : Option PendingOperator) → xs ≡ ys ++ option_to_list r
    → MatchOption r (ys ≡ []) (λ _. Unit {0})
    → MatchOption r ((reverse (map pending_form xs) ≡ []) × (reverse (map pending_form ys) ≡ []))
    (λ top. reverse (map pending_form xs) ≡ pending_form top ∷ reverse (map pending_form ys))
pop_shown xs ys None h k =
    let none : ys ≡ [] = k in (
      ap (λ (l : List PendingOperator). reverse (map pending_form l)) (h ∙ append-nil ys ∙ none),
      ap (λ (l : List PendingOperator). reverse (map pending_form l)) none,
    )
pop_shown xs ys (Some x) h k = ap (λ (l : List PendingOperator). reverse (map pending_form l)) h ∙ shown_push ys x

or_swap : (a b : Bool) → (a || (b || false)) ≡ (b || a)
or_swap true true = refl
or_swap true false = refl
or_swap false true = refl
or_swap false false = refl

opened_from_end : (front : List PendingForm) (f : PendingForm)
    → list_any is_opened (front ++ f ∷ []) ≡ (is_opened f || list_any is_opened front)
opened_from_end front f = list_any-append is_opened front (f ∷ []) ∙ or_swap (list_any is_opened front) (is_opened f)

pub opened_shown : (xs : List PendingOperator) → list_any is_opened (reverse (map pending_form xs))
    ≡ list_any (λ x. is_opened (pending_form x)) xs
opened_shown [] = refl
opened_shown (x ∷ xs) =
    ap (list_any is_opened) (reverse-append (pending_form x ∷ []) (map pending_form xs))
    ∙ opened_from_end (reverse (map pending_form xs)) (pending_form x)
    ∙ ap (λ (b : Bool). is_opened (pending_form x) || b) (opened_shown xs)

pub none_left : (old new : Vec PendingOperator) (r : Option PendingOperator)
    → MatchOption r ((vec_len old ≡ 0) × (vec_len new ≡ 0)) (λ _. vec_len new + 1 ≡ vec_len old)
    → new.items ≡ take (vec_len old - 1) old.items → MatchOption r (new.items ≡ []) (λ _. Unit {0})
none_left old new None h k =
    let size : vec_len old - 1 ≡ 0 = omega (arith, h.0) in k ∙ ap (λ (n : ℕ). take n old.items) size
none_left old new (Some x) h k = tt

-- one is ended
pub close_one : (level : ℕ) (top : PendingForm) (old new : List PendingForm) (f g : Form) → old ≡ top ∷ new
    → binds level top ≡ true → g ≡ around top f → close level new g ≡ close level old f
close_one level top old new f g e h k =
    ap (close level new) k ∙ sym (close_ends level top new f h)
    ∙ ap (λ (l : List PendingForm). close level l f) (sym e)

-- none is left to be ended
pub close_none : (level : ℕ) (pending : List PendingForm) (f : Form) → is_bound level pending ≡ false
    → close level pending f ≡ record { pending = pending; form = f }
unfolding close
close_none level [] f h = refl
close_none level (top ∷ pending) f h = ap (λ (b : Bool). if b then close level pending (around top f)
    else record { pending = top ∷ pending; form = f }) h

-- what is ended stops at the last open parenthesis
pub close_opened : (pending : List PendingForm) (f : Form) → list_any is_opened pending ≡ true
    → (divides : Bool) × (rest : List PendingForm) × ((close 0 pending f).pending ≡ opened divides ∷ rest)
unfolding close
close_opened [] f h = cc
close_opened (opened divides ∷ pending) f h = (divides, pending, refl)
close_opened (before op ∷ pending) f h = close_opened pending (Prefixed op f) h
close_opened (after left op ∷ pending) f h =
    let r = close_opened pending (Joined op left f) h in
    (r.0, r.1, ap (λ (c : Closed). c.pending) (close_ends 0 (after left op) pending f (leb-zero _)) ∙ r.2)

-- and where none is open, all is ended
pub close_all : (pending : List PendingForm) (f : Form) → list_any is_opened pending ≡ false
    → (close 0 pending f).pending ≡ []
unfolding close
close_all [] f h = refl
close_all (opened divides ∷ pending) f h = cc
close_all (before op ∷ pending) f h = close_all pending (Prefixed op f) h
close_all (after left op ∷ pending) f h =
    ap (λ (c : Closed). c.pending) (close_ends 0 (after left op) pending f (leb-zero _))
    ∙ close_all pending (Joined op left f) h

pub leave_opened : (pending rest : List PendingForm) (f g : Form) (divides : Bool) (left : List PendingForm)
    → close 0 pending f ≡ record { pending = left; form = g } → left ≡ opened divides ∷ rest
    → leave (close 0 pending f).pending (close 0 pending f).form ≡ Some (state divides rest (whole OPERAND g))
leave_opened pending rest f g divides left e h =
    ap (λ (c : Closed). leave c.pending c.form) e ∙ ap (λ (l : List PendingForm). leave l g) h

-- what an expression at hand comes to
pub done_whole : (s : State) (level : ℕ) (f g : Form) (left : List PendingForm) → s.hand ≡ whole level f
    → close 0 s.pending f ≡ record { pending = left; form = g } → done s ≡ number_alone left g
unfolding done
done_whole s level f g left e h =
    ap (done_from s.pending) e ∙ ap (λ (c : Closed). number_alone c.pending c.form) h

pub done_lone : (s : State) (a : Text) → s.hand ≡ lone a → done s ≡ text_alone s.pending a
unfolding done
done_lone s a e = ap (done_from s.pending) e

pub number_waits : (left : List PendingForm) (g : Form) → (left ≡ [] → ⊥) → number_alone left g ≡ None
number_waits [] g h = absurd (h refl)
number_waits (_ ∷ left) g h = refl

pub text_waits : (left : List PendingForm) (a : Text) → (left ≡ [] → ⊥) → text_alone left a ≡ None
text_waits [] a h = absurd (h refl)
text_waits (_ ∷ left) a h = refl

pub done_waits : (s : State) (hand : HandForm) → s.hand ≡ hand
    → ((pending : List PendingForm) → done_from pending hand ≡ None) → done s ≡ None
unfolding done
done_waits s hand e h = ap (done_from s.pending) e ∙ h s.pending
