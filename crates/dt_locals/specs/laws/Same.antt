-- The tests tell what is one, and what is 0.
use Rattle.std.proofs.Common.{◌≡◌, Bool, true, false, ℤ, ◌⊎◌, inl, inr, refl, sym, ap, ◌∙◌, subst, nat_eq, ◌&&◌}
use Rattle.std.specs.Prelude.{◌≢◌, pos, not}
use Rattle.std.specs.Ordering.{int_eq}
use Rattle.std.specs.Cmp.Lexicographic.{pointwise, bytes_decides}
use Rattle.std.proofs.lemmas.Bool.{false≢true, false_from_ne_true, and_parts, and_from}
use Rattle.std.proofs.lemmas.Bool.Decides.{Decides-eqb, Decides-int_eq}
use Rattle.dt_locals.specs.History.{same_local}
use Rattle.dt_locals.specs.Values.{is_set}
use Rattle.dt_locals.specs.declared.variable.LocalVariable.{LocalVariable}

pub local_is : (a b : LocalVariable) → same_local a b ≡ true → a ≡ b
local_is a b e =
    let more = and_parts (nat_eq a.pid b.pid && nat_eq a.tid b.tid) (pointwise nat_eq a.name b.name) e in
    let two = and_parts (nat_eq a.pid b.pid) (nat_eq a.tid b.tid) more.0 in
    let pid = (Decides-eqb a.pid b.pid).0 two.0 in
    let tid = (Decides-eqb a.tid b.tid).0 two.1 in
    let name = (bytes_decides a.name b.name).0 more.1 in
    λ i. record { pid = pid i; tid = tid i; name = name i }

pub own_local : (a : LocalVariable) → same_local a a ≡ true
own_local a =
    and_from (nat_eq a.pid a.pid && nat_eq a.tid a.tid) (pointwise nat_eq a.name a.name)
    (and_from (nat_eq a.pid a.pid) (nat_eq a.tid a.tid) ((Decides-eqb a.pid a.pid).1 refl)
    ((Decides-eqb a.tid a.tid).1 refl))
    ((bytes_decides a.name a.name).1 refl)

pub local_same : (a b : LocalVariable) → a ≡ b → same_local a b ≡ true
local_same a b e = subst (λ x. same_local a x ≡ true) e (own_local a)

pub local_other : (a b : LocalVariable) → a ≢ b → same_local a b ≡ false
local_other a b n = false_from_ne_true (same_local a b) (λ e. n (local_is a b e))

pub local_apart : (a b : LocalVariable) → same_local a b ≡ false → a ≢ b
local_apart a b e same = false≢true (sym e ∙ local_same a b same)

pub one_or_two : (a b : LocalVariable) → (a ≡ b) ⊎ (a ≢ b)
one_or_two a b = by (same_local a b) refl
  where
    by : (t : Bool) → same_local a b ≡ t → (a ≡ b) ⊎ (a ≢ b)
    by true e = inl (local_is a b e)
    by false e = inr (local_apart a b e)

pub zero_or : (z : ℤ) → (z ≡ pos 0) ⊎ (z ≢ pos 0)
zero_or z = by (int_eq z (pos 0)) refl
  where
    by : (t : Bool) → int_eq z (pos 0) ≡ t → (z ≡ pos 0) ⊎ (z ≢ pos 0)
    by true e = inl ((Decides-int_eq z (pos 0)).0 e)
    by false e = inr (λ f. false≢true (sym e ∙ (Decides-int_eq z (pos 0)).1 f))

pub set_no : (z : ℤ) → z ≡ pos 0 → is_set z ≡ false
set_no z e = ap not ((Decides-int_eq z (pos 0)).1 e)

pub set_yes : (z : ℤ) → z ≢ pos 0 → is_set z ≡ true
set_yes z n = ap not (false_from_ne_true (int_eq z (pos 0)) (λ e. n ((Decides-int_eq z (pos 0)).0 e)))

pub set_is : (z : ℤ) → is_set z ≡ true → z ≢ pos 0
set_is z e zero = false≢true (sym (set_no z zero) ∙ e)
