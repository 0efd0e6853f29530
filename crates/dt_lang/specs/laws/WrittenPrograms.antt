-- A program that was read lies within the bounds of what can be written.
use Rattle.std.proofs.Common.{◌≡◌, ◌≢◌, ℕ, zero, suc, ◌<◌, ◌≤◌, true, List, [], ◌∷◌, ◌++◌, length, Result, Ok}
use Rattle.std.proofs.Common.{Option, Some, None, IfSome, ℤ, pos, refl, sym, ap, ◌∙◌, subst, ⊎_elim, ◌⊎◌, inl, inr, arith, lit<}
use Rattle.std.proofs.Common.{length-append, append_assoc, append-nil}
use Rattle.std.specs.List.{AllByRecursion}
use Rattle.dt_names.specs.Limits.{short_text_max}
use Rattle.dt_expr.specs.Form.{Form, Num}
use Rattle.dt_expr.specs.declared.operators.UnaryOp.TheVariants as unary
use Rattle.dt_expr.specs.declared.text.Text.{Text}
use Rattle.dt_program.specs.declared.description.Description.{Description}
use Rattle.dt_aggfn.specs.Bounds.{AreBounds}
use Rattle.dt_program.specs.Clause.{ArgForm, number, CallForm, sum, avg, min, max, quantize, StatementForm, trace, ClauseForm}
use Rattle.dt_program.specs.Description.{DescForm, form_of_description}
use Rattle.dt_program.specs.Limits.{descriptions_max, statements_max, keys_max, clauses_max, tokens_max}
use Rattle.dt_program.specs.Written.{IsWrittenExpression, IsWrittenArgument, AreWrittenBounds, IsWrittenCall}
use Rattle.dt_program.specs.Written.{IsWrittenStatement, IsWrittenClause, IsWrittenProgram}
use Rattle.dt_lang.specs.declared.fault.Flaw.TheVariants.{TooLong, Range}
use Rattle.dt_lang.specs.declared.fault.Limit.{Limit}
use Rattle.dt_lang.specs.declared.token.Sign.TheVariants as sign
use Rattle.dt_lang.specs.declared.token.Token.{Token}
use Rattle.dt_lang.specs.declared.token.Token.TheVariants as token
use Rattle.dt_lang.specs.declared.word.Action.{Action}
use Rattle.dt_lang.specs.declared.word.Action.TheVariants as action
use Rattle.dt_lang.specs.declared.word.Function.{Function}
use Rattle.dt_lang.specs.declared.word.Function.TheVariants as function
use Rattle.dt_lang.specs.declared.word.Keyword.TheVariants as keyword
use Rattle.dt_lang.specs.declared.word.Word.TheVariants as word
use Rattle.dt_program.specs.Bounds.{bounds_fault}
use Rattle.dt_program.specs.laws.BoundsLaws.{faultless_bounds}
use Rattle.dt_program.specs.declared.clause.BoundsFault.{BoundsFault}
use Rattle.dt_program.specs.declared.description.DescriptionFault.{DescriptionFault}
use Rattle.dt_lang.specs.Expression.{ReadsExpr, ReadsLocal, a_local, a_number, prefixed, ReadsArgument, a_text, an_expression, OPERAND, text_token}
use Rattle.dt_lang.specs.Grammar.{ReadsHead, ReadsOpening, always, ReadsKeys, ReadsTarget, bare, keyed, ReadsBounds}
use Rattle.dt_lang.specs.Grammar.{by_one, stepped, call_of, ReadsCall, counting, of_one, in_levels, statement_of, TakesNumber, ReadsStatement}
use Rattle.dt_lang.specs.Grammar.{of_argument, of_stack, of_ustack, aggregating, assigning, drawing, Spot, before_statement, ReadsBody, stated, separated}
use Rattle.dt_lang.specs.Grammar.{ReadsClause, ReadsClauses}
use Rattle.dt_lang.specs.Grammar as grammar
use Rattle.dt_lang.specs.Reads.{IsProgram}
use Rattle.dt_lang.specs.Refused.{because, IsTooLong, IsForStatement, GoesOn, fits, taken, IsOperand, OperandStands}
use Rattle.dt_lang.specs.Refused.{NoneRefused}
use Rattle.dt_lang.specs.Refused as refused
use Rattle.dt_lang.specs.Stand.{BodyStands, KeysStand, TargetStands, Slot, predicate, given, key, value}
use Rattle.dt_lang.specs.Stand.{assignment, a_variable, divides_in, SlotOpens, a_predicate, an_argument, first_key, a_value}
use Rattle.dt_lang.specs.Stand as stand
use Rattle.dt_lang.specs.laws.ClauseSound.{same_some}
use Rattle.dt_lang.specs.laws.ExpressionSound.{loosen}
use Rattle.dt_lang.specs.laws.WrittenTokens.{IsWrittenToken, AreWritten, front_all, back_all, joined_all, tokens_written}
use Rattle.dt_lang.specs.laws.WrittenTokens.{local_written, text_written, parts_written, parts_few, expression_begins, constant_written}

-- less, or not
below_or : (n m : ℕ) → (n < m) ⊎ (m ≤ n)
below_or zero zero = inr (omega arith)
below_or zero (suc m) = inl (omega arith)
below_or (suc n) zero = inr (omega arith)
below_or (suc n) (suc m) = ⊎_elim (λ less. inl (omega arith)) (λ more. inr (omega arith)) (below_or n m)

one_more : {A : Type 0} (xs : List A) (x : A) (n : ℕ) → length xs < n → length (xs ++ (x ∷ [])) ≤ n
one_more xs x n h = omega (arith, length-append xs (x ∷ []))

some_more : {A : Type 0} (xs : List A) (x : A) → 1 ≤ length (xs ++ (x ∷ []))
some_more xs x = omega (arith, length-append xs (x ∷ []))

-- a list with an element after the first n
record CutAt (n : ℕ) (xs : List Token) : Type 0 where
  front : List Token
  one : Token
  back : List Token
  long : length front ≡ n
  is : xs ≡ front ++ (one ∷ back)

cut_at : (n : ℕ) (xs : List Token) → n < length xs → CutAt n xs
cut_at n [] h = absurd (omega arith)
cut_at zero (x ∷ xs) h = record { front = []; one = x; back = xs; long = refl; is = refl }
cut_at (suc n) (x ∷ xs) h =
    let more = cut_at n xs (omega arith) in
    record {
      front = x ∷ more.front;
      one = more.one;
      back = more.back;
      long = ap suc more.long;
      is = ap (λ ys. x ∷ ys) more.is;
    }

-- some tokens stand after others
record At (tokens front us : List Token) : Type 0 where
  back : List Token
  cut : tokens ≡ front ++ (us ++ back)

module _ (tokens : List Token) (unrefused : NoneRefused tokens) (each : AreWritten tokens) where
  first : (front us vs : List Token) → At tokens front (us ++ vs) → At tokens front us
  first front us vs h = record { back = vs ++ h.back; cut = h.cut ∙ ap (λ xs. front ++ xs) (append_assoc us vs h.back) }

  second : (front us vs : List Token) → At tokens front (us ++ vs) → At tokens (front ++ us) vs
  second front us vs h = record {
    back = h.back;
    cut = h.cut ∙ ap (λ xs. front ++ xs) (append_assoc us vs h.back) ∙ sym (append_assoc front us (vs ++ h.back));
  }

  written_at : (front us : List Token) → At tokens front us → AreWritten us
  written_at front us h =
      front_all IsWrittenToken us h.back
      (back_all IsWrittenToken front (us ++ h.back) (subst AreWritten h.cut each))

  -- the first of them is not one too many
  short_at : (front us : List Token) (t : Token) {limit : Limit} → At tokens front (t ∷ us) → IsTooLong front t limit → ⊥
  short_at front us t {limit = limit} h = unrefused front (us ++ h.back) t (because (TooLong limit)) h.cut

  -- expressions
  few_at : (slot : Slot) (front us : List Token) (cs : List ClauseForm) (c : ClauseForm) (f : Form)
      → SlotOpens slot front cs c → At tokens front us → ReadsExpr (divides_in slot) 0 us f → length us ≤ tokens_max
  few_at slot front us cs c f opens h reads = ⊎_elim more (λ few. few) (below_or tokens_max (length us))
    where
      more : tokens_max < length us → length us ≤ tokens_max
      more long =
          let k = cut_at tokens_max us long in
          let at = second front k.front (k.one ∷ k.back) (subst (At tokens front) k.is h) in
          let whole = k.is ∙ sym (append_assoc k.front (k.one ∷ []) k.back) in
          let enough : tokens_max ≤ length k.front = omega (arith, k.long) in
          absurd (short_at (front ++ k.front) k.back k.one at
          (refused.a_token slot front k.front cs c k.one opens enough (fits (record {
            more = k.back;
            form = f;
            reads = subst (λ xs. ReadsExpr (divides_in slot) 0 xs f) whole reads;
          }))))

  expression_at : (slot : Slot) (front us : List Token) (cs : List ClauseForm) (c : ClauseForm) (f : Form)
      → SlotOpens slot front cs c → At tokens front us → ReadsExpr (divides_in slot) 0 us f → IsWrittenExpression f
  expression_at slot front us cs c f opens h reads =
      let few = few_at slot front us cs c f opens h reads in
      let parts = parts_few reads in
      record { parts = parts_written reads (written_at front us h); few = omega (arith, few, parts) }

  argument_at : (slot : Slot) (front us : List Token) (cs : List ClauseForm) (c : ClauseForm) (a : ArgForm)
      → divides_in slot ≡ true → SlotOpens slot front cs c → At tokens front us → ReadsArgument us a
      → IsWrittenArgument a
  argument_at slot front _ cs c _ divides opens h (a_text t a is) =
      text_written t a is (written_at front (t ∷ []) h).0
  argument_at slot front us cs c _ divides opens h (an_expression ts f reads) =
      expression_at slot front ts cs c f opens h (subst (λ b. ReadsExpr b 0 ts f) (sym divides) reads)

  -- keys
  operand_text : (t : Token) (a : Text) → text_token t ≡ Some a → IsOperand t
  operand_text (token.String bytes) a e = tt
  operand_text (token.Word w) a e = tt
  operand_text _ a e = cc

  an_operand : OperandStands true []
  an_operand = refused.a_number (record {
    more = token.Number (pos 0) ∷ [];
    form = _;
    reads = loosen 0 OPERAND (prefixed true sign.Bang unary.Not _ (Num (pos 0)) refl (a_number true (pos 0))) (omega arith)
        (omega arith);
  })

  argument_begins : (us : List Token) (a : ArgForm) → ReadsArgument us a
      → (t : Token) × (rest : List Token) × (us ≡ t ∷ rest) × GoesOn true [] t
  argument_begins _ _ (a_text t a is) = (t, [], refl, taken (operand_text t a is) an_operand)
  argument_begins _ _ (an_expression ts f reads) =
      let first = expression_begins reads in (
        first.0,
        first.1,
        first.2,
        fits (record { more = first.1; form = f; reads = subst (λ xs. ReadsExpr true 0 xs f) first.2 reads }),
      )

  abbrev AreWrittenKeys : List ArgForm → Type 0
  AreWrittenKeys keys = (length keys ≤ keys_max) × AllByRecursion IsWrittenArgument keys

  module _ (cs : List ClauseForm) (c : ClauseForm) (front : List Token) (name : List ℕ) (stands : BodyStands before_statement front cs c)
    where
      abbrev opening : List Token
      opening = token.Aggregation name ∷ token.Sign sign.OpenBracket ∷ []

      keys_at : (ts : List Token) (keys : List ArgForm) → At tokens (front ++ opening) ts → ReadsKeys ts keys
          → AreWrittenKeys keys
      keys_at _ _ h (grammar.a_key ts a reads) = (
        omega arith,
        (argument_at (key name []) (front ++ opening) ts cs c a refl (first_key front cs c name stands) h reads, tt),
      )
      keys_at _ _ h (grammar.another ts us keys a more reads) =
          let before = keys_at ts keys (first (front ++ opening) ts (token.Sign sign.Comma ∷ us) h) more in
          let there : KeysStand ((front ++ opening) ++ ts) cs c name keys = record {
            front = front;
            back = ts;
            split = append_assoc front opening ts;
            stands = stands;
            reads = more;
          } in
          let here = second ((front ++ opening) ++ ts) (token.Sign sign.Comma ∷ []) us
          (second (front ++ opening) ts (token.Sign sign.Comma ∷ us) h) in
          let begun = argument_begins us a reads in
          let room : length keys < keys_max = ⊎_elim (λ less. less)
          (λ full. absurd (short_at (((front ++ opening) ++ ts) ++ (token.Sign sign.Comma ∷ [])) begun.1 begun.0
          (subst (At tokens (((front ++ opening) ++ ts) ++ (token.Sign sign.Comma ∷ []))) begun.2 here)
          (refused.a_key ((front ++ opening) ++ ts) cs c name keys begun.0 there full begun.3)))
          (below_or (length keys) keys_max) in (
            one_more keys a keys_max room,
            joined_all IsWrittenArgument keys (a ∷ []) before.1 (
              argument_at (key name keys) (((front ++ opening) ++ ts) ++ (token.Sign sign.Comma ∷ [])) us cs c a refl
                  (stand.a_key ((front ++ opening) ++ ts) cs c name keys there) here reads,
              tt,
            ),
          )

  target_at : (cs : List ClauseForm) (c : ClauseForm) (front ts : List Token) (name : List ℕ) (keys : List ArgForm)
      → BodyStands before_statement front cs c → At tokens front ts → ReadsTarget ts name keys
      → (length name ≤ short_text_max) × AreWrittenKeys keys
  target_at cs c front _ _ _ stands h (bare name) =
      ((written_at front (token.Aggregation name ∷ []) h).0, (omega arith, tt))
  target_at cs c front _ _ _ stands h (keyed name ts keys reads) =
      let lead = token.Aggregation name ∷ token.Sign sign.OpenBracket ∷ [] in (
        (written_at front (lead ++ (ts ++ (token.Sign sign.CloseBracket ∷ []))) h).0,
        keys_at cs c front name stands ts keys
            (first (front ++ lead) ts (token.Sign sign.CloseBracket ∷ [])
            (second front lead (ts ++ (token.Sign sign.CloseBracket ∷ [])) h)) reads,
      )

  -- calls
  call_is : (fn : Function) (f : Form) (call : CallForm) → call_of fn f ≡ Some call → IsWrittenExpression f
      → IsWrittenCall call
  call_is function.Sum f call e h = let same : sum f ≡ call = cc in subst IsWrittenCall same h
  call_is function.Avg f call e h = let same : avg f ≡ call = cc in subst IsWrittenCall same h
  call_is function.Min f call e h = let same : min f ≡ call = cc in subst IsWrittenCall same h
  call_is function.Max f call e h = let same : max f ≡ call = cc in subst IsWrittenCall same h
  call_is function.Quantize f call e h = let same : quantize f ≡ call = cc in subst IsWrittenCall same h
  call_is function.Count f call e h = cc
  call_is function.Lquantize f call e h = cc

  not_counting : (fn : Function) (f : Form) (call : CallForm) → call_of fn f ≡ Some call → fn ≢ function.Count
  not_counting fn f call e is =
      let bad : None ≡ Some call = sym (ap (λ g. call_of g f) is) ∙ e in cc

  constants_at : (us : List Token) (lower upper step : ℤ) → AreWritten us → ReadsBounds us lower upper step
      → AreBounds lower upper step → AreWrittenBounds lower upper step
  constants_at _ _ _ _ h (by_one ts us lower upper low high) levels = record {
    lower_fits = constant_written low (front_all IsWrittenToken ts (token.Sign sign.Comma ∷ us) h.1);
    upper_fits = constant_written high (back_all IsWrittenToken ts (token.Sign sign.Comma ∷ us) h.1).1;
    step_fits = record { sfits = lit< tt };
    levels = levels;
  }
  constants_at _ _ _ _ h (stepped ts us vs lower upper step low high by) levels =
      let later = (back_all IsWrittenToken ts (token.Sign sign.Comma ∷ (us ++ (token.Sign sign.Comma ∷ vs))) h.1).1 in
      record {
        lower_fits = constant_written low
            (front_all IsWrittenToken ts (token.Sign sign.Comma ∷ (us ++ (token.Sign sign.Comma ∷ vs))) h.1);
        upper_fits = constant_written high (front_all IsWrittenToken us (token.Sign sign.Comma ∷ vs) later);
        step_fits = constant_written by (back_all IsWrittenToken us (token.Sign sign.Comma ∷ vs) later).1;
        levels = levels;
      }

  module _ (cs : List ClauseForm) (c : ClauseForm) (front : List Token) (name : List ℕ) (keys : List ArgForm)
      (stands : TargetStands front cs c name keys) where
    abbrev function_opening : Function → List Token
    function_opening fn = token.Sign sign.Equal ∷ token.Word (word.Function fn) ∷ token.Sign sign.OpenParen ∷ []

    levels_at : (ts us : List Token) (f : Form) (lower upper step : ℤ) → ReadsExpr true 0 ts f
        → ReadsBounds us lower upper step
        → At tokens (front ++ function_opening function.Lquantize) (ts ++ (us ++ (token.Sign sign.CloseParen ∷ [])))
        → AreBounds lower upper step
    levels_at ts us f lower upper step reads bounds h = by_test (bounds_fault lower upper step) refl
      where
        start : List Token
        start = front ++ function_opening function.Lquantize

        at : At tokens (start ++ (ts ++ us)) (token.Sign sign.CloseParen ∷ [])
        at = second start (ts ++ us) (token.Sign sign.CloseParen ∷ [])
            (subst (At tokens start) (sym (append_assoc ts us (token.Sign sign.CloseParen ∷ []))) h)

        by_test : (fault : Option BoundsFault) → bounds_fault lower upper step ≡ fault → AreBounds lower upper step
        by_test None e = faultless_bounds lower upper step e
        by_test (Some fault) e = absurd (unrefused (start ++ (ts ++ us)) at.back (token.Sign sign.CloseParen)
            (because (Range fault)) at.cut
            (record {
              front = start;
              expression = ts;
              bounds = us;
              split = refl;
              ends = refl;
              clauses = cs;
              clause = c;
              name = name;
              keys = keys;
              opens = a_value front cs c name keys function.Lquantize (λ is. cc) stands;
              form = f;
              reads = reads;
              lower = lower;
              upper = upper;
              step = step;
              reads_bounds = bounds;
              wrong = e;
            }))

    call_at : (us : List Token) (call : CallForm) → At tokens front (token.Sign sign.Equal ∷ us) → ReadsCall us call
        → IsWrittenCall call
    call_at _ _ h counting = tt
    call_at _ _ h (of_one fn ts f call is reads) =
        call_is fn f call is
        (expression_at (value name keys fn) (front ++ function_opening fn) ts cs c f
        (a_value front cs c name keys fn (not_counting fn f call is) stands)
        (first (front ++ function_opening fn) ts (token.Sign sign.CloseParen ∷ [])
        (second front (function_opening fn) (ts ++ (token.Sign sign.CloseParen ∷ [])) h))
        reads)
    call_at _ _ h (in_levels ts us f lower upper step reads bounds) =
        let start = front ++ function_opening function.Lquantize in
        let inside = second front (function_opening function.Lquantize) (ts ++ (us ++ (token.Sign sign.CloseParen ∷ []))) h in
        let behind = second start ts (us ++ (token.Sign sign.CloseParen ∷ [])) inside in (
          expression_at (value name keys function.Lquantize) start ts cs c f
              (a_value front cs c name keys function.Lquantize (λ is. cc) stands)
              (first start ts (us ++ (token.Sign sign.CloseParen ∷ [])) inside) reads,
          constants_at us lower upper step
              (written_at (start ++ ts) us (first (start ++ ts) us (token.Sign sign.CloseParen ∷ []) behind)) bounds
              (levels_at ts us f lower upper step reads bounds inside),
        )

  -- statements
  takes_number : (a : Action) (x : ArgForm) (s : StatementForm) → statement_of a x ≡ Some s → TakesNumber a
  takes_number action.Stack x s is = cc
  takes_number action.Ustack x s is = cc
  takes_number _ x s is = λ f. (_, refl)

  statement_is : (a : Action) (x : ArgForm) (s : StatementForm) → statement_of a x ≡ Some s → IsWrittenArgument x
      → IsWrittenStatement s
  statement_is action.Trace x s is h = let same : trace x ≡ s = cc in subst IsWrittenStatement same h
  statement_is action.Stack x s is h = cc
  statement_is action.Ustack x s is h = cc
  statement_is _ (number f) s is h = subst IsWrittenStatement (same_some is) h
  statement_is _ _ s is h = cc

  statement_at : (cs : List ClauseForm) (c : ClauseForm) (front us : List Token) (s : StatementForm)
      → BodyStands before_statement front cs c → At tokens front us → ReadsStatement us s → IsWrittenStatement s
  statement_at cs c front _ _ stands h (of_argument a ts x s is reads) =
      let lead = token.Word (word.Action a) ∷ token.Sign sign.OpenParen ∷ [] in
      statement_is a x s is
      (argument_at (given a) (front ++ lead) ts cs c x refl (an_argument front cs c a (takes_number a x s is) stands)
      (first (front ++ lead) ts (token.Sign sign.CloseParen ∷ [])
      (second front lead (ts ++ (token.Sign sign.CloseParen ∷ [])) h))
      reads)
  statement_at cs c front _ _ stands h (of_stack n counted) = (counted.some, counted.few)
  statement_at cs c front _ _ stands h (of_ustack n counted) = (counted.some, counted.few)
  statement_at cs c front _ _ stands h (aggregating ts us name keys call target calls) =
      let of_target = target_at cs c front ts name keys stands (first front ts (token.Sign sign.Equal ∷ us) h) target in
      record {
        short = of_target.0;
        few = of_target.1.0;
        keys_written = of_target.1.1;
        call_written = call_at cs c (front ++ ts) name keys
            (record { front = front; back = ts; split = refl; stands = stands; reads = target })
            us call (second front ts (token.Sign sign.Equal ∷ us) h) calls;
      }
  statement_at cs c front _ _ stands h (assigning ts us name f variable reads) =
      let opening = ts ++ (token.Sign sign.Equal ∷ []) in
      let behind = second front opening us (subst (At tokens front) (sym (append_assoc ts (token.Sign sign.Equal ∷ []) us)) h) in
      record {
        short = local_written variable (written_at front ts (first front ts (token.Sign sign.Equal ∷ us) h));
        value_written = expression_at (assignment name) (front ++ opening) us cs c f
            (a_variable front ts cs c name stands variable) behind reads;
      }
  statement_at cs c front _ _ stands h (drawing ts name variable) =
      local_written variable (written_at front ts (first front ts _ h))

  target_begins : (ts us : List Token) (name : List ℕ) (keys : List ArgForm) → ReadsTarget ts name keys
      → (t : Token) × (rest : List Token) × (ts ++ us ≡ t ∷ rest) × IsForStatement t
  target_begins _ us _ _ (bare name) = (token.Aggregation name, us, refl, tt)
  target_begins _ us _ _ (keyed name ts keys reads) = (token.Aggregation name, _, refl, tt)

  local_begins : (ts us : List Token) (name : List ℕ) → ReadsLocal ts name
      → (t : Token) × (rest : List Token) × (ts ++ us ≡ t ∷ rest) × IsForStatement t
  local_begins _ us _ (a_local w name e) = (token.Word (word.Keyword keyword.ThreadLocal), _, refl, tt)

  statement_begins : (us : List Token) (s : StatementForm) → ReadsStatement us s
      → (t : Token) × (rest : List Token) × (us ≡ t ∷ rest) × IsForStatement t
  statement_begins _ _ (of_argument a ts x s is reads) = (token.Word (word.Action a), _, refl, tt)
  statement_begins _ _ (of_stack n counted) = (token.Word (word.Action action.Stack), _, refl, tt)
  statement_begins _ _ (of_ustack n counted) = (token.Word (word.Action action.Ustack), _, refl, tt)
  statement_begins _ _ (aggregating ts us name keys call target calls) =
      target_begins ts (token.Sign sign.Equal ∷ us) name keys target
  statement_begins _ _ (assigning ts us name f variable reads) = local_begins ts _ name variable
  statement_begins _ _ (drawing ts name variable) = local_begins ts _ name variable

  -- bodies and heads, in a clause after whole ones
  abbrev clause_of : List DescForm → Option Form → List StatementForm → ClauseForm
  clause_of ds p ss = record { descriptions = ds; predicate = p; statements = ss }

  module _ (cs : List ClauseForm) (clauses : List Token) (before : ReadsClauses clauses cs) where
    body_at : (ds : List DescForm) (p : Option Form) (opening : List Token) → ReadsOpening opening ds p
        → (spot : Spot) (us : List Token) (ss : List StatementForm) → At tokens (clauses ++ opening) us
        → ReadsBody spot us ss → (length ss ≤ statements_max) × AllByRecursion IsWrittenStatement ss
    body_at ds p opening reads_opening _ _ _ h grammar.nothing = (omega arith, tt)
    body_at ds p opening reads_opening _ _ _ h (stated ts us ss s more reads) =
        let earlier = body_at ds p opening reads_opening before_statement ts ss (first (clauses ++ opening) ts us h) more in
        let here = second (clauses ++ opening) ts us h in
        let stands : BodyStands before_statement ((clauses ++ opening) ++ ts) cs (clause_of ds p ss) = record {
          clauses = clauses;
          opening = opening;
          body = ts;
          split = append_assoc clauses opening ts;
          before = before;
          reads_opening = reads_opening;
          reads = more;
        } in
        let begun = statement_begins us s reads in
        let room : length ss < statements_max = ⊎_elim (λ less. less)
        (λ full. absurd (short_at ((clauses ++ opening) ++ ts) begun.1 begun.0
        (subst (At tokens ((clauses ++ opening) ++ ts)) begun.2 here)
        (refused.a_statement ((clauses ++ opening) ++ ts) cs (clause_of ds p ss) begun.0 stands full begun.3)))
        (below_or (length ss) statements_max) in (
          one_more ss s statements_max room,
          joined_all IsWrittenStatement ss (s ∷ []) earlier.1
              (statement_at cs (clause_of ds p ss) ((clauses ++ opening) ++ ts) us s stands here reads, tt),
        )
    body_at ds p opening reads_opening _ _ _ h (separated spot ts ss more) =
        body_at ds p opening reads_opening spot ts ss (first (clauses ++ opening) ts (token.Sign sign.Semicolon ∷ []) h) more

    head_at : (ts : List Token) (ds : List DescForm) → At tokens clauses ts → ReadsHead ts ds
        → (1 ≤ length ds) × (length ds ≤ descriptions_max)
    head_at _ _ h (grammar.a_description d) = (omega arith, omega arith)
    head_at _ _ h (grammar.another ts ds d more) =
        let last = token.Description (Ok d) in
        let here = second (clauses ++ ts) (token.Sign sign.Comma ∷ []) (last ∷ [])
        (second clauses ts (token.Sign sign.Comma ∷ last ∷ []) h) in
        let room : length ds < descriptions_max = ⊎_elim (λ less. less)
        (λ full. absurd (short_at ((clauses ++ ts) ++ (token.Sign sign.Comma ∷ [])) [] last here
        (refused.a_description (clauses ++ ts) cs ds (Ok d)
        (record { clauses = clauses; head = ts; split = refl; before = before; reads = more }) full)))
        (below_or (length ds) descriptions_max) in
        (some_more ds (form_of_description d), one_more ds (form_of_description d) descriptions_max room)

    -- what stands before the body
    record Opened (ds : List DescForm) (p : Option Form) : Type 0 where
      described : 1 ≤ length ds
      few : length ds ≤ descriptions_max
      guarded : IfSome p IsWrittenExpression

    opening_at : (ts : List Token) (ds : List DescForm) (p : Option Form) → At tokens clauses ts → ReadsOpening ts ds p
        → Opened ds p
    opening_at _ _ _ h (always ts ds reads) =
        let head = head_at ts ds (first clauses ts (token.Sign sign.OpenBrace ∷ []) h) reads in
        record { described = head.0; few = head.1; guarded = tt }
    opening_at _ _ _ h (grammar.guarded ts us ds f reads guards) =
        let end = token.Sign sign.Slash ∷ token.Sign sign.OpenBrace ∷ [] in
        let head = head_at ts ds (first clauses ts (token.Sign sign.Slash ∷ (us ++ end)) h) reads in
        let behind = second (clauses ++ ts) (token.Sign sign.Slash ∷ []) (us ++ end)
        (second clauses ts (token.Sign sign.Slash ∷ (us ++ end)) h) in
        record {
          described = head.0;
          few = head.1;
          guarded = expression_at predicate ((clauses ++ ts) ++ (token.Sign sign.Slash ∷ [])) us cs _ f
              (a_predicate (clauses ++ ts) cs ds
              (record { clauses = clauses; head = ts; split = refl; before = before; reads = reads }))
              (first ((clauses ++ ts) ++ (token.Sign sign.Slash ∷ [])) us end behind) guards;
        }

    clause_at : (us : List Token) (c : ClauseForm) → At tokens clauses us → ReadsClause us c → IsWrittenClause c
    clause_at _ _ h (grammar.a_clause spot ts us ds p ss reads_opening body) =
        let end = token.Sign sign.CloseBrace ∷ [] in
        let head = opening_at ts ds p (first clauses ts (us ++ end) h) reads_opening in
        let inside = body_at ds p ts reads_opening spot us ss (first (clauses ++ ts) us end (second clauses ts (us ++ end) h)) body in
        record {
          described = head.described;
          few_descriptions = head.few;
          guarded = head.guarded;
          few = inside.0;
          stated = inside.1;
        }

  -- a clause begins with a description
  abbrev BeginsDescribed : List Token → Type 0
  BeginsDescribed ts = (d : Result Description DescriptionFault) × (rest : List Token) × (ts ≡ token.Description d ∷ rest)

  more_described : (ts us : List Token) → BeginsDescribed ts → BeginsDescribed (ts ++ us)
  more_described ts us begun = (begun.0, begun.1 ++ us, ap (λ xs. xs ++ us) begun.2)

  head_begins : (ts : List Token) (ds : List DescForm) → ReadsHead ts ds → BeginsDescribed ts
  head_begins _ _ (grammar.a_description d) = (Ok d, [], refl)
  head_begins _ _ (grammar.another ts ds d more) = more_described ts _ (head_begins ts ds more)

  opening_begins : (ts : List Token) (ds : List DescForm) (p : Option Form) → ReadsOpening ts ds p → BeginsDescribed ts
  opening_begins _ _ _ (always ts ds reads) = more_described ts _ (head_begins ts ds reads)
  opening_begins _ _ _ (grammar.guarded ts us ds f reads guards) = more_described ts _ (head_begins ts ds reads)

  clause_begins : (ts : List Token) (c : ClauseForm) → ReadsClause ts c → BeginsDescribed ts
  clause_begins _ _ (grammar.a_clause spot ts us ds p ss reads_opening body) =
      more_described ts _ (opening_begins ts ds p reads_opening)

  clauses_at : (ts : List Token) (cs : List ClauseForm) → At tokens [] ts → ReadsClauses ts cs
      → (length cs ≤ clauses_max) × AllByRecursion IsWrittenClause cs
  clauses_at _ _ h grammar.nothing = (omega arith, tt)
  clauses_at _ _ h (grammar.another ts us cs c more reads) =
      let earlier = clauses_at ts cs (first [] ts us h) more in
      let here = second [] ts us h in
      let begun = clause_begins us c reads in
      let room : length cs < clauses_max = ⊎_elim (λ less. less)
      (λ full. absurd (short_at ts begun.1 (token.Description begun.0) (subst (At tokens ts) begun.2 here)
      (refused.a_clause ts cs begun.0 more full)))
      (below_or (length cs) clauses_max) in (
        one_more cs c clauses_max room,
        joined_all IsWrittenClause cs (c ∷ []) earlier.1 (clause_at cs ts more us c here reads, tt),
      )

some_long : (cs : List ClauseForm) → cs ≢ [] → 1 ≤ length cs
some_long [] n = absurd (n refl)
some_long (c ∷ cs) n = omega arith

pub program_written : (text : List ℕ) (cs : List ClauseForm) → IsProgram text cs → IsWrittenProgram cs
program_written text cs is =
    let whole : is.tokens ≡ is.tokens ++ [] = sym (append-nil is.tokens) in
    let all = clauses_at is.tokens is.unrefused (tokens_written is.stand) is.tokens cs (record { back = []; cut = whole })
    is.reads.reads in
    record { some = some_long cs is.reads.some; few = all.0; each = all.1 }
