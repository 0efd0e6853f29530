-- A token ends an `lquantize` with wrong bounds exactly where the state of the reading says so.
use Rattle.std.proofs.Common.{◌≡◌, ℕ, true, List, ◌∷◌, ◌++◌, Some, refl, sym, ◌∙◌, subst, append_assoc, ℤ, pos}
use Rattle.dt_expr.specs.Form.{Form}
use Rattle.dt_program.specs.Bounds.{bounds_fault}
use Rattle.dt_program.specs.declared.clause.BoundsFault.{BoundsFault}
use Rattle.dt_lang.specs.declared.token.Sign.TheVariants as sign
use Rattle.dt_lang.specs.declared.token.Token.{Token}
use Rattle.dt_lang.specs.declared.token.Token.TheVariants as token
use Rattle.dt_lang.specs.declared.word.Function.TheVariants as function
use Rattle.dt_lang.specs.Grammar.{ReadsConstant, plain, negative, ReadsBounds, by_one, stepped}
use Rattle.dt_program.specs.Clause.{ArgForm, number, ClauseForm}
use Rattle.dt_lang.specs.Stand.{value}
use Rattle.dt_lang.specs.Refused.{IsOutOfRange}
use Rattle.dt_lang.specs.machine.ClauseState.{BoundForm, at_lower, at_upper, at_step, PlaceForm, bounding, bounded, inside}
use Rattle.dt_lang.specs.machine.ClauseState.{ProgramState, program_at, entered, program_step, program_run, program_start}
use Rattle.dt_lang.specs.machine.Cause.{fault_of_bounds, out_of_range_at}
use Rattle.dt_lang.specs.machine.ExpressionState.{IsRead}
use Rattle.dt_lang.specs.laws.ExpressionLaws.{complete}
use Rattle.dt_lang.specs.laws.Reading.{Levels, Bounded, ReadAt}
use Rattle.dt_lang.specs.laws.ClauseSound.{none_some, same_some}
use Rattle.dt_lang.specs.laws.ClauseComplete.{run_on, slot_over, constant_over, slot_leads}
use Rattle.dt_lang.specs.laws.ClauseLaws.{read}

-- an `lquantize` whose constants are no bounds is wrong at its `)`
out_with : {ts tail : List Token} {cs : List ClauseForm} {c : ClauseForm} {name : List ℕ} {keys : List ArgForm}
    {f : Form} {b : BoundForm} (lower upper by : ℤ) (fault : BoundsFault) (l : Levels tail ts cs c name keys f b)
    → ReadsBounds (l.back ++ tail) lower upper by → bounds_fault lower upper by ≡ Some fault
    → IsOutOfRange ts (token.Sign sign.CloseParen) fault
out_with {tail = tail} {cs = cs} {c = c} {name = name} {keys = keys} {f = f} lower upper by fault l reads e = record {
  front = l.front;
  expression = l.middle;
  bounds = l.back ++ tail;
  split = l.split;
  ends = refl;
  clauses = cs;
  clause = c;
  name = name;
  keys = keys;
  opens = l.opens;
  form = f;
  reads = l.reads;
  lower = lower;
  upper = upper;
  step = by;
  reads_bounds = reads;
  wrong = e;
}

-- what the state says holds
bounded_out : (ts : List Token) (cs : List ClauseForm) (c : ClauseForm) (name : List ℕ) (keys : List ArgForm)
    (f : Form) (b : BoundForm) (z : ℤ) (fault : BoundsFault) → Bounded ts cs c name keys f b z
    → fault_of_bounds b z ≡ Some fault → IsOutOfRange ts (token.Sign sign.CloseParen) fault
bounded_out ts cs c name keys f at_lower z fault h e = absurd (none_some e)
bounded_out ts cs c name keys f (at_upper lower) z fault h e =
    let (us, k, r) = h.levels.bounds in
    let i : h.levels.back ++ h.tail ≡ token.Sign sign.Comma ∷ (us ++ (token.Sign sign.Comma ∷ h.tail)) =
    rw k (simp append_assoc) in
    out_with lower z (pos 1) fault h.levels (rw i (by_one us h.tail lower z r h.reads)) e
bounded_out ts cs c name keys f (at_step lower upper) z fault h e =
    let (us, vs, k, r, q) = h.levels.bounds in
    let i : h.levels.back ++ h.tail
    ≡ token.Sign sign.Comma ∷ (us ++ (token.Sign sign.Comma ∷ (vs ++ (token.Sign sign.Comma ∷ h.tail))))
    = rw k (simp append_assoc) in
    out_with lower upper z fault h.levels (rw i (stepped us vs h.tail lower upper z r q h.reads)) e

bounded_out_at : (ts : List Token) (cs : List ClauseForm) (c : ClauseForm) (name : List ℕ) (keys : List ArgForm)
    (f : Form) (b : BoundForm) (z : ℤ) (t : Token) (fault : BoundsFault) → Bounded ts cs c name keys f b z
    → out_of_range_at (inside (bounded name keys f b z)) t ≡ Some fault → IsOutOfRange ts t fault
bounded_out_at ts cs c name keys f b z (token.Sign sign.CloseParen) fault h e =
    bounded_out ts cs c name keys f b z fault h e
bounded_out_at ts cs c name keys f b z t fault h e = absurd (none_some e)

read_out_of_range : (ts : List Token) (cs : List ClauseForm) (c : ClauseForm) (p : PlaceForm) (t : Token)
    (fault : BoundsFault) → ReadAt cs c p ts → out_of_range_at p t ≡ Some fault → IsOutOfRange ts t fault
read_out_of_range ts cs c (inside (bounded name keys f b z)) t fault h e = bounded_out_at ts cs c name keys f b z t fault h e
read_out_of_range ts cs c _ t fault h e = absurd (none_some e)

-- where bounds lead, after an `lquantize`'s value
pub record BoundsLead (cs : List ClauseForm) (c : ClauseForm) (name : List ℕ) (keys : List ArgForm) (f : Form)
    (ts : List Token) (lower upper by : ℤ) : Type 0 where
  pub bound : BoundForm
  pub last : ℤ
  pub levels : fault_of_bounds bound last ≡ bounds_fault lower upper by
  pub runs : program_run (entered cs c (value name keys function.Lquantize)) ts
      ≡ Some (program_at cs c (inside (bounded name keys f bound last)))

constant_lead : (cs : List ClauseForm) (c : ClauseForm) (name : List ℕ) (keys : List ArgForm) (f : Form)
    (b : BoundForm) (ts : List Token) (z : ℤ) → ReadsConstant ts z
    → program_run (program_at cs c (inside (bounding name keys f b))) ts ≡ Some (program_at cs c (inside (bounded name keys f b z)))
unfolding program_run program_step
constant_lead cs c name keys f b _ _ (plain n) = refl
constant_lead cs c name keys f b _ _ (negative n) = refl

bounds_lead : (cs : List ClauseForm) (c : ClauseForm) (name : List ℕ) (keys : List ArgForm) (f : Form)
    (ts us : List Token) (lower upper by : ℤ) → IsRead true ts (number f) → ReadsBounds us lower upper by
    → BoundsLead cs c name keys f (ts ++ us) lower upper by
unfolding program_run program_step
bounds_lead cs c name keys f ts _ _ _ _ r (by_one vs ws lower upper h k) = record {
  bound = at_upper lower;
  last = upper;
  levels = refl;
  runs = slot_over cs c (value name keys function.Lquantize) ts _ (number f) (token.Sign sign.Comma) _ r refl refl
      ∙ constant_over cs c name keys f at_lower vs _ lower h
      ∙ constant_lead cs c name keys f (at_upper lower) ws upper k;
}
bounds_lead cs c name keys f ts _ _ _ _ r (stepped vs ws xs lower upper by h k l) = record {
  bound = at_step lower upper;
  last = by;
  levels = refl;
  runs = slot_over cs c (value name keys function.Lquantize) ts _ (number f) (token.Sign sign.Comma) _ r refl refl
      ∙ constant_over cs c name keys f at_lower vs _ lower h
      ∙ constant_over cs c name keys f (at_upper lower) ws _ upper k
      ∙ constant_lead cs c name keys f (at_step lower upper) xs by l;
}

-- the state that the tokens lead to, and the rule that the bounds break there
pub record OutThere (ts : List Token) (t : Token) (fault : BoundsFault) : Type 0 where
  pub at : ProgramState
  pub runs : program_run program_start ts ≡ Some at
  pub says : out_of_range_at at.place t ≡ Some fault

out_there : (ts : List Token) (t : Token) (fault : BoundsFault) → IsOutOfRange ts t fault → OutThere ts t fault
out_there ts t fault k =
    let r = complete true k.expression k.form k.reads in
    let l = bounds_lead k.clauses k.clause k.name k.keys k.form k.expression k.bounds k.lower k.upper k.step r
    k.reads_bounds in
    let first = slot_leads (value k.name k.keys function.Lquantize) k.front k.clauses k.clause k.opens in
    record {
      at = program_at k.clauses k.clause (inside (bounded k.name k.keys k.form l.bound l.last));
      runs = rw k.split (run_on _ _ _ k.front (k.expression ++ k.bounds) first l.runs);
      says = rw k.ends (l.levels ∙ k.wrong);
    }

module _ (ts : List Token) (t : Token) (s : ProgramState) (h : program_run program_start ts ≡ Some s) where
  pub out_of_range_is : (fault : BoundsFault) → out_of_range_at s.place t ≡ Some fault → IsOutOfRange ts t fault
  out_of_range_is fault e = read_out_of_range ts s.clauses s.clause s.place t fault (read ts s h) e

  pub out_of_range_true : (fault : BoundsFault) → IsOutOfRange ts t fault → out_of_range_at s.place t ≡ Some fault
  out_of_range_true fault k =
      let there = out_there ts t fault k in
      subst (λ (x : ProgramState). out_of_range_at x.place t ≡ Some fault) (same_some (sym there.runs ∙ h)) there.says
