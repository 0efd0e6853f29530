-- A program has one verdict.
use Rattle.std.proofs.Common.{◌≡◌, ℕ, ◌&&◌, ◌||◌, not, Bool, true, false, List, refl, sym, ap, ◌∙◌, arith}
use Rattle.std.specs.List.{list_any}
use Rattle.dt_cred.specs.declared.account.Account.{Account}
use Rattle.dt_machine.specs.Registry.{Registry}
use Rattle.dt_program.specs.Program.{ClauseForm}
use Rattle.dt_ecb.specs.Enable.{EnableVerdict, enabled, privilege, clash, unmatched, limit, IsVerdict, has_stack, may_do_all}
use Rattle.dt_ecb.specs.Enable.{is_unmatched, is_too_much}
use Rattle.dt_ecb.specs.Shapes.{ShapeForm, uses_of, any_clash}
use Rattle.dt_ecb.proofs.ClashLaws.{some_clash, any_from_clash, same_clash}
use Rattle.dt_ecb.proofs.FirstLemmas.{some_first, any_from_first, same_first}

-- how far a program comes: which of the four refusals holds first, if one does
abbrev stage_by : Bool → Bool → Bool → Bool → ℕ
stage_by false clashes fails much = 0
stage_by true true fails much = 1
stage_by true false true much = 2
stage_by true false false true = 3
stage_by true false false false = 4

abbrev stage : EnableVerdict → ℕ
stage (privilege n) = 0
stage (clash name) = 1
stage (unmatched n) = 2
stage limit = 3
stage enabled = 4

-- an account without the right, and a clause that wants it
pub not_allowed : (kernel wants : Bool) → kernel ≡ false → wants ≡ true → (kernel || not wants) ≡ false
not_allowed kernel wants e h = ap (λ b. b || not wants) e ∙ ap not h

pub allowed_kernel : (kernel wants : Bool) → kernel ≡ true → (kernel || not wants) ≡ true
allowed_kernel kernel wants e = ap (λ b. b || not wants) e

pub allowed_none : (kernel wants : Bool) → wants ≡ false → (kernel || not wants) ≡ true
allowed_none true wants e = refl
allowed_none false wants e = ap not e

lacks : (kernel wants : Bool) → (kernel || not wants) ≡ false → (kernel ≡ false) × (wants ≡ true)
lacks true wants e = cc
lacks false true e = (refl, refl)
lacks false false e = cc

whole : (may clashes fails much : Bool) → (may && (not clashes && (not fails && not much))) ≡ true
    → stage_by may clashes fails much ≡ 4
whole false clashes fails much e = cc
whole true true fails much e = cc
whole true false true much e = cc
whole true false false true e = cc
whole true false false false e = refl

stage_2 : (may clashes fails much : Bool) → may ≡ true → clashes ≡ false → fails ≡ true
    → stage_by may clashes fails much ≡ 2
stage_2 true false true much a c f = refl
stage_2 false clashes fails much a c f = cc
stage_2 true true fails much a c f = cc
stage_2 true false false much a c f = cc

stage_3 : (may clashes fails much : Bool) → may ≡ true → clashes ≡ false → fails ≡ false → much ≡ true
    → stage_by may clashes fails much ≡ 3
stage_3 true false false true a c f m = refl
stage_3 false clashes fails much a c f m = cc
stage_3 true true fails much a c f m = cc
stage_3 true false true much a c f m = cc
stage_3 true false false false a c f m = cc

pub all_pass : (may clashes fails much : Bool) → may ≡ true → clashes ≡ false → fails ≡ false → much ≡ false
    → (may && (not clashes && (not fails && not much))) ≡ true
all_pass true false false false a c f m = refl
all_pass false clashes fails much a c f m = cc
all_pass true true fails much a c f m = cc
all_pass true false true much a c f m = cc
all_pass true false false true a c f m = cc

module _ (account : Account) (registry : Registry) (accepted : List ShapeForm) (epid : ℕ)
    (clauses : List ClauseForm) where
  abbrev may : Bool
  may = may_do_all account registry accepted epid clauses

  abbrev clashing : Bool
  clashing = any_clash accepted (uses_of clauses)

  abbrev failing : Bool
  failing = list_any (is_unmatched account registry) clauses

  abbrev much : Bool
  much = is_too_much account registry accepted epid clauses

  abbrev IsIt : EnableVerdict → Type 0
  IsIt = IsVerdict account registry accepted epid clauses

  staged : (v : EnableVerdict) → IsIt v → stage_by may clashing failing much ≡ stage v
  staged (privilege n) h =
      ap (λ b. stage_by b clashing failing much)
      (not_allowed account.privs.dtrace_kernel (list_any has_stack clauses) h.0
      (any_from_first has_stack clauses n h.1))
  staged (clash name) h =
      ap (λ b. stage_by b clashing failing much) h.0
      ∙ ap (λ b. stage_by true b failing much) (any_from_clash accepted (uses_of clauses) name h.1)
  staged (unmatched n) h =
      stage_2 may clashing failing much h.0 h.1 (any_from_first (is_unmatched account registry) clauses n h.2)
  staged limit h = stage_3 may clashing failing much h.0 h.1 h.2 h.3
  staged enabled h = whole may clashing failing much h

  same_by : (v w : EnableVerdict) → IsIt v → IsIt w → stage v ≡ stage w → v ≡ w
  same_by (privilege n) (privilege m) h k e = ap privilege (same_first has_stack clauses n m h.1 k.1)
  same_by (clash n) (clash m) h k e = ap clash (same_clash accepted (uses_of clauses) n m h.1 k.1)
  same_by (unmatched n) (unmatched m) h k e =
      ap unmatched (same_first (is_unmatched account registry) clauses n m h.2 k.2)
  same_by limit limit h k e = refl
  same_by enabled enabled h k e = refl
  same_by _ _ h k e = absurd (omega arith)

  pub same_verdict : (v w : EnableVerdict) → IsIt v → IsIt w → v ≡ w
  same_verdict v w h k = same_by v w h k (sym (staged v h) ∙ staged w k)

  verdict_by : (a c f m : Bool) → may ≡ a → clashing ≡ c → failing ≡ f → much ≡ m → (v : EnableVerdict) × IsIt v
  verdict_by false c f m ae ce fe me =
      let why = lacks account.privs.dtrace_kernel (list_any has_stack clauses) ae in
      let first = some_first has_stack clauses why.1 in
      (privilege first.0, (why.0, first.1))
  verdict_by true true f m ae ce fe me =
      let first = some_clash accepted (uses_of clauses) ce in (clash first.0, (ae, first.1))
  verdict_by true false true m ae ce fe me =
      let first = some_first (is_unmatched account registry) clauses fe in (unmatched first.0, (ae, ce, first.1))
  verdict_by true false false true ae ce fe me = (limit, (ae, ce, fe, me))
  verdict_by true false false false ae ce fe me = (enabled, all_pass may clashing failing much ae ce fe me)

  pub some_verdict : (v : EnableVerdict) × IsIt v
  some_verdict = verdict_by may clashing failing much refl refl refl refl
