-- The bytes don't suffice.
use Rattle.std.proofs.Common.{◌≡◌, ◌+◌, ◌<◌, ◌≤◌, ℕ, None, Option, List, get_or, length, take, sym, ap, ◌∙◌, subst}
use Rattle.std.proofs.Common.{arith, if◌then◌else◌}
use Rattle.std.specs.Option.{MatchOption}
use Rattle.std.proofs.lemmas.List.{length-map}
use Rattle.std.proofs.lemmas.Bool.{eq-eqb}
use Rattle.dt_ecb.specs.Forms.{form_of_ecb, no_clause}
use Rattle.dt_ecb.specs.declared.parts.Ecb.{Ecb}
use Rattle.dt_lang.specs.Program.{ClauseForm, form_of_clause}
use Rattle.dt_life.specs.Life.{attempt_size}
use Rattle.dt_life.specs.declared.limits.TheConstants.{END}
use Rattle.dt_life.specs.laws.Sizes.{end_sizes, one_size, size_by, sizes_more, sizes_few}
use Rattle.dt_life.specs.laws.Takings.{clause_found, there_at}
use Rattle.dt_life.proofs.reserve.left_by_end.Goals as goal

too_few : (size left sizes more all one : ℕ) → left + sizes ≡ size → more ≡ sizes + one → more ≤ all → left < one
    → size < all
too_few size left sizes more all one a b c d = omega (arith, a, b, c, d)

-- the size of the record of the ECB at a place
one_is : (clauses : List ClauseForm) (ecb : Ecb) (n : ℕ) → ecb.probe ≡ END
    → n ≡ size_by (form_of_ecb clauses ecb) → n ≡ one_size clauses ecb
one_is clauses ecb n is e =
    e ∙ sym (ap (λ b. if b then size_by (form_of_ecb clauses ecb) else 0) (eq-eqb ecb.probe END is))

none_left : (o : Option ℕ) (A : Type 0) (B : ℕ → Type 0) → o ≡ None → A → MatchOption o A B
none_left o A B e a = subst (λ p. MatchOption p A B) (sym e) a

pub returns-in_err-left-clause-left : goal.returns-in_err-left-clause-left
returns-in_err-left-clause-left c = λ clauses own placed.
    let row = c.args.ecbs.now in
    let i = c.loop-ecb.ecb-index in
    let ecb = c.ecb-item.result in
    let clause = c.in_ok-clause.clause.now in
    let inside : ecb.clause < length clauses =
    there_at row i ecb (length clauses) placed
    c.loop-ecb-test.true c.ecb-item.is in
    let found : c.size_attempted.result ≡ size_by (form_of_ecb clauses ecb) =
    c.size_attempted.ensures
    ∙ ap attempt_size
    (sym (clause_found c.args.clauses.now ecb.clause clause
    (omega (arith, inside, sym (ap length own), length-map c.args.clauses.now form_of_clause))
    (c.in_ok-clause.ensures.lookup.3.1 clause))
    ∙ ap (λ cs. get_or cs ecb.clause no_clause) own) in
    none_left c.from_residual-in_err-left.result _ _ c.from_residual-in_err-left.ensures
    (too_few c.args.size c.loop-ecb.left (end_sizes clauses (take i row)) (end_sizes clauses (take (i + 1) row))
    (end_sizes clauses row) c.size_attempted.result (c.loop-ecb.invariant.left clauses own placed)
    (sizes_more clauses row i ecb c.loop-ecb-test.true c.ecb-item.is
    ∙ ap (λ n. end_sizes clauses (take i row) + n) (sym (one_is clauses ecb c.size_attempted.result c.if-ecb-eq-END.true found)))
    (sizes_few clauses row (i + 1)) (omega (arith, c.in_err-left.ensures)))
