-- What is told of the list while drops, failed draws and parts are listed.
use Rattle.std.proofs.Common.{◌≡◌, ◌≢◌, ℕ, ◌+◌, ◌<◌, ◌==◌, ◌&&◌, Bool, true, false, cond, List, [], ◌∷◌, ◌++◌, length, get_or, map, take}
use Rattle.std.proofs.Common.{Some, refl, sym, ap, ap₂, ◌∙◌, subst, ⊎_elim, arith}
use Rattle.std.specs.Bool.{nat_lt}
use Rattle.std.specs.Global.{Vec}
use Rattle.std.specs.Option.{option_and_then, option_map, option_to_list}
use Rattle.std.proofs.lemmas.Bool.{cases_eq, cases_lt, eq-eqb, le-ltb, lt-ltb, ne_eqb}
use Rattle.std.proofs.lemmas.List.{append-nil, map-append, take_more}
use Rattle.dt_buffer.specs.History as buffer
use Rattle.dt_record.specs.Forms.{form_of_end}
use Rattle.dt_record.specs.Taking.{SpecEndForm, TakenForm, committed}
use Rattle.dt_record.specs.declared.parts.SpecEnd.{SpecEnd}
use Rattle.dt_speculation.specs.History.{SpecPast, put_under, specs_then}
use Rattle.dt_speculation.specs.Parts.{is_dropped, part_bytes}
use Rattle.dt_speculation.specs.Uses.{is_in_use}
use Rattle.dt_speculation.specs.declared.answer.SpecPut.{SpecPut}
use Rattle.dt_speculation.specs.declared.answer.SpecPut.TheVariants.{Dropped}
use Rattle.dt_alone.specs.Happened.{ProcessorTold, dropped_of, only_attempts, only_drops, told_both}
use Rattle.dt_life.specs.Takings.{puts_in}
use Rattle.dt_alone.specs.declared.happened.Happened.TheVariants.{Committed, DrawFailed, RecordDropped, VariableDropped}
use Rattle.dt_alone.proofs.Bringing.{attempts_both, both_assoc, both_nothing, counted_one, told_of, told_one}
use Rattle.dt_life.specs.Takings.{freed_by, part_out, parts_out}
use Rattle.dt_life.specs.laws.Parts.{parts_out_more}

-- variables that were dropped, one more
pub variables_none : (old : ProcessorTold) (b : Bool) → old ≡ told_both old (only_drops (cond b 0 0) 0 0)
variables_none old true = sym (both_nothing old)
variables_none old false = sym (both_nothing old)

variable_one : (b : Bool) (n : ℕ) → told_both (only_drops (cond b n 0) 0 0) (told_of [] 0 [] (cond b 1 0) 0 0)
    ≡ only_drops (cond b (n + 1) 0) 0 0
variable_one true n = refl
variable_one false n = refl

pub variables_step : (old : ProcessorTold) (cpu on n : ℕ)
    → told_both (told_both old (only_drops (cond (cpu == on) n 0) 0 0)) (told_one on (VariableDropped cpu))
    ≡ told_both old (only_drops (cond (cpu == on) (n + 1) 0) 0 0)
variables_step old cpu on n =
    both_assoc old (only_drops (cond (cpu == on) n 0) 0 0) (told_one on (VariableDropped cpu))
    ∙ ap (told_both old) (variable_one (cpu == on) n)

-- draws that failed, one more
pub draws_step : (old : ProcessorTold) (on n : ℕ)
    → told_both (told_both old (only_drops 0 0 n)) (told_one on DrawFailed) ≡ told_both old (only_drops 0 0 (n + 1))
draws_step old on n = both_assoc old (only_drops 0 0 n) (told_one on DrawFailed)

-- parts up to a processor, and its own
up_to_next : {X : Type 0} (f : ℕ → List X) (on cpu : ℕ)
    → cond (nat_lt on cpu) (f on) [] ++ cond (cpu == on) (f cpu) [] ≡ cond (nat_lt on (cpu + 1)) (f on) []
up_to_next f on cpu = ⊎_elim
    (λ below.
    ap₂ (λ b c. cond b (f on) [] ++ cond c (f cpu) []) (lt-ltb on cpu below) (ne_eqb cpu on (omega (arith, below)))
    ∙ append-nil (f on) ∙ ap (λ b. cond b (f on) []) (sym (lt-ltb on (cpu + 1) (omega (arith, below)))))
    (λ beyond. ⊎_elim
    (λ (e : on ≡ cpu).
    ap₂ (λ b c. cond b (f on) [] ++ cond c (f cpu) []) (le-ltb on cpu beyond) (eq-eqb cpu on (sym e))
    ∙ ap f (sym e) ∙ ap (λ b. cond b (f on) []) (sym (lt-ltb on (cpu + 1) (omega (arith, e)))))
    (λ (ne : on ≢ cpu).
    ap₂ (λ b c. cond b (f on) [] ++ cond c (f cpu) []) (le-ltb on cpu beyond) (ne_eqb cpu on (λ e. ne (sym e)))
    ∙ ap (λ b. cond b (f on) []) (sym (le-ltb on (cpu + 1) (omega (arith, beyond, ne)))))
    (cases_eq on cpu))
    (cases_lt on cpu)

committed_one : (in_end b : Bool) (part : List ℕ)
    → told_of (cond b (buffer.attempt part in_end ∷ []) []) 0 [] 0 0 0 ≡ only_attempts in_end (cond b (part ∷ []) [])
committed_one in_end true part = refl
committed_one in_end false part = refl

module _ (in_end : Bool) (past : SpecPast) (id : ℕ) (old : ProcessorTold) (on cpu : ℕ) where
  abbrev pub up_to : ℕ → ProcessorTold
  up_to n = told_both old (only_attempts in_end (cond (nat_lt on n) (part_out on past (committed id)) []))

  next_part : told_both (up_to cpu) (only_attempts in_end (cond (cpu == on) (part_out cpu past (committed id)) [])) ≡ up_to (cpu + 1)
  next_part =
      both_assoc old (only_attempts in_end (cond (nat_lt on cpu) (part_out on past (committed id)) []))
      (only_attempts in_end (cond (cpu == on) (part_out cpu past (committed id)) []))
      ∙ ap (told_both old) (attempts_both in_end _ _
      ∙ ap (only_attempts in_end) (up_to_next (λ n. part_out n past (committed id)) on cpu))

  part_is : (bytes : List ℕ) (b : Bool) → bytes ≡ part_bytes past id cpu → (length bytes == 0) ≡ b
      → part_out cpu past (committed id) ≡ cond b [] (bytes ∷ [])
  part_is bytes b e f =
      ap (λ (bs : List ℕ). cond (length bs == 0) [] (bs ∷ [])) (sym e) ∙ ap (λ c. cond c [] (bytes ∷ [])) f

  -- a part that has bytes
  pub part_step : (part : Vec ℕ) → part.items ≡ part_bytes past id cpu → (length part.items == 0) ≡ false
      → told_both (up_to cpu) (told_one on (Committed cpu in_end part)) ≡ up_to (cpu + 1)
  part_step part e f =
      ap (told_both (up_to cpu)) (committed_one in_end (cpu == on) part.items
      ∙ ap (λ ps. only_attempts in_end (cond (cpu == on) ps [])) (sym (part_is part.items false e f)))
      ∙ next_part

  -- one without
  no_part : (b : Bool) → up_to cpu ≡ told_both (up_to cpu) (only_attempts in_end (cond b [] []))
  no_part true = sym (both_nothing (up_to cpu))
  no_part false = sym (both_nothing (up_to cpu))

  pub part_none : (bytes : List ℕ) → bytes ≡ part_bytes past id cpu → (length bytes == 0) ≡ true → up_to cpu ≡ up_to (cpu + 1)
  part_none bytes e f =
      no_part (cpu == on)
      ∙ ap (λ ps. told_both (up_to cpu) (only_attempts in_end (cond (cpu == on) ps []))) (sym (part_is bytes true e f))
      ∙ next_part

pub parts_none : (in_end : Bool) (old : ProcessorTold) (on : ℕ) (xs : List (List ℕ))
    → old ≡ told_both old (only_attempts in_end (cond (nat_lt on 0) xs []))
parts_none in_end old on xs =
    sym (both_nothing old) ∙ ap (λ b. told_both old (only_attempts in_end (cond b xs []))) (sym (le-ltb on 0 (omega arith)))

-- the ends of a list that code goes over, one more
pub ends_step : (all : List SpecEnd) (i : ℕ) (d x : SpecEnd) → i < length all → get_or all i d ≡ x
    → map form_of_end (take (i + 1) all) ≡ map form_of_end (take i all) ++ form_of_end x ∷ []
ends_step all i d x inside at =
    ap (map form_of_end) (take_more all i d inside) ∙ map-append form_of_end (take i all) (get_or all i d ∷ [])
    ∙ ap (λ y. map form_of_end (take i all) ++ form_of_end y ∷ []) at

module _ (in_end : Bool) (on : ℕ) (past : SpecPast) (old : ProcessorTold) (ends : List SpecEndForm) (end : SpecEndForm) where
  pub end_step : told_both (told_both old (only_attempts in_end (parts_out on past ends)))
      (only_attempts in_end (part_out on (specs_then past (freed_by ends)) end))
      ≡ told_both old (only_attempts in_end (parts_out on past (ends ++ end ∷ [])))
  end_step =
      both_assoc old (only_attempts in_end (parts_out on past ends))
      (only_attempts in_end (part_out on (specs_then past (freed_by ends)) end))
      ∙ ap (told_both old) (attempts_both in_end _ _ ∙ ap (only_attempts in_end) (sym (parts_out_more on past ends end)))

-- a record that is put under an identifier
module _ (cpu on : ℕ) (past : SpecPast) (form : TakenForm) (bytes : List ℕ) (id : ℕ) (left : form.record_bytes ≡ Some bytes)
    (directed : form.spec ≡ Some id) where
  pub puts_are : put_under id cpu bytes ∷ [] ≡ puts_in cpu form
  puts_are = ap₂ (λ o spec. option_to_list (option_and_then (λ id. option_map (put_under id cpu) o) spec)) (sym left) (sym directed)

  abbrev rest_is : Bool → Type 0
  rest_is b = is_dropped on past (put_under id cpu bytes) ≡ ((cpu == on) && b)

  dropped_by : (b : Bool) → rest_is b → dropped_of on past (puts_in cpu form) ≡ cond ((cpu == on) && b) 1 0
  dropped_by b e =
      ap (dropped_of on past) (sym puts_are) ∙ counted_one (is_dropped on past) (put_under id cpu bytes)
      ∙ ap (λ c. cond c 1 0) e

  own_test : (a b : Bool) → a ≡ true → (a && b) ≡ b
  own_test true b e = refl
  own_test false b e = cc

  -- it is dropped on every processor as on its own, or not
  at_own : (b : Bool) → is_dropped cpu past (put_under id cpu bytes) ≡ b → rest_is b
  at_own b e = ⊎_elim
      (λ (same : on ≡ cpu). subst (λ n. is_dropped n past (put_under id cpu bytes) ≡ ((cpu == n) && b)) (sym same)
      (e ∙ sym (own_test (cpu == cpu) b (eq-eqb cpu cpu refl))))
      (λ (ne : on ≢ cpu).
      ap (λ c. c && (is_in_use id past.events && nat_lt past.specsize (length (part_bytes past id on) + length bytes)))
      (ne_eqb cpu on (λ same. ne (sym same)))
      ∙ sym (ap (λ c. c && b) (ne_eqb cpu on (λ same. ne (sym same)))))
      (cases_eq on cpu)

  both_true : (b : Bool) → (b && true) ≡ b
  both_true true = refl
  both_true false = refl

  both_false : (b : Bool) → (b && false) ≡ false
  both_false true = refl
  both_false false = refl

  pub put_dropped : (old : ProcessorTold) → is_dropped cpu past (put_under id cpu bytes) ≡ true
      → told_both old (told_one on (RecordDropped cpu)) ≡ told_both old (only_drops 0 (dropped_of on past (puts_in cpu form)) 0)
  put_dropped old e =
      ap (λ n. told_both old (only_drops 0 n 0))
      (ap (λ c. cond c 1 0) (sym (both_true (cpu == on))) ∙ sym (dropped_by true (at_own true e)))

  pub put_kept : (old : ProcessorTold) → is_dropped cpu past (put_under id cpu bytes) ≡ false
      → old ≡ told_both old (only_drops 0 (dropped_of on past (puts_in cpu form)) 0)
  put_kept old e =
      sym (both_nothing old)
      ∙ ap (λ n. told_both old (only_drops 0 n 0))
      (ap (λ c. cond c 1 0) (sym (both_false (cpu == on))) ∙ sym (dropped_by false (at_own false e)))

-- what isn't answered so isn't dropped
pub undropped : (answer : SpecPut) (b : Bool) → (answer ≡ Dropped → ⊥) → (b ≡ true → answer ≡ Dropped) → b ≡ false
undropped answer true ne from = absurd (ne (from refl))
undropped answer false ne from = refl
