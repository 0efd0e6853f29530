-- The one ECB of the probe was taken, or each of them.
use Rattle.std.proofs.Common.{◌≡◌, ◌+◌, ◌<◌, ◌≤◌, false, [], length, get_or, map, sym, ap, ◌∙◌, subst, arith}
use Rattle.std.specs.Option.{is_some}
use Rattle.dt_lang.specs.Program.{form_of_clause}
use Rattle.dt_life.specs.TracingSteps.{steps_and}
use Rattle.dt_locals.specs.LocalsAreAt.{local_drops_of}
use Rattle.dt_machine.specs.Context.{form_of_context}
use Rattle.dt_speculation.specs.IsAt.{fails_of}
use Rattle.dt_consumer.specs.Counts.{COMES_BY_ONE, COMES_MAX}
use Rattle.dt_consumer.proofs.Counted.{fails_more}
use Rattle.dt_consumer.proofs.Tallying.{at_most_more}
use Rattle.dt_consumer.proofs.TracedEcbs.{one_traced}
use Rattle.dt_consumer.proofs.Turning.{exits_none, turn, turned_all, turned_more, turned_none}
use Rattle.dt_consumer.proofs.processors.Processors.take.Goals as goal

pub returns-in-Some-clause-counts : goal.returns-in-Some-clause-counts
returns-in-Some-clause-counts c = λ n h.
    at_most_more (n + COMES_BY_ONE) (n + COMES_MAX) c.take_traced.new.self.all.items (omega arith) (c.take_traced.ensures.counts n h)

pub returns-in-Some-clause-fails : goal.returns-in-Some-clause-fails
returns-in-Some-clause-fails c = λ n h.
    fails_more n (n + COMES_MAX) c.take_traced.new.self (omega arith) (
      subst (λ l. local_drops_of l ≤ n) (sym c.take_traced.ensures.locals) h.0,
      subst (λ p. fails_of p ≤ n) (sym c.take_traced.ensures.specs) h.1,
    )

pub returns-in-Some-clause-after : goal.returns-in-Some-clause-after
returns-in-Some-clause-after c = λ account registry s steps clauses uses is are none.
    let m = form_of_context c.args.context.now in
    let row = c.args.list.now.ecbs.items in
    let one = one_traced s.clauses row c.in-Some.traced (sym is ∙ c.in-Some.is) in
    let long : length row ≡ 1 = ap length one.only in
    let inside : 0 < length row = omega (arith, long) in
    let at : one.ecb ≡ get_or row 0 one.ecb = sym (ap (λ xs. get_or xs 0 one.ecb) one.only) in
    let had = turned_none account registry s steps m c.args.self.now are none in
    let so_far = steps_and steps (turn false s.options steps m s.clauses []) in
    turned_all account registry s steps m row 1 c.take_traced.new.self (omega (arith, long))
    (turned_more account registry s steps m row 0 one.ecb inside at c.args.self.now c.take_traced.new.self had
    (c.take_traced.ensures.after account registry s so_far one.ecb one.is had.after had.open_still)
    (ap is_some (c.take_traced.ensures.exit account registry s so_far one.ecb one.is)))

pub returns-in-Some-clause-exit : goal.returns-in-Some-clause-exit
returns-in-Some-clause-exit c = λ account registry s steps clauses uses is are none.
    let m = form_of_context c.args.context.now in
    let row = c.args.list.now.ecbs.items in
    let one = one_traced s.clauses row c.in-Some.traced (sym is ∙ c.in-Some.is) in
    let long : length row ≡ 1 = ap length one.only in
    let inside : 0 < length row = omega (arith, long) in
    let at : one.ecb ≡ get_or row 0 one.ecb = sym (ap (λ xs. get_or xs 0 one.ecb) one.only) in
    let had = turned_none account registry s steps m c.args.self.now are none in
    let so_far = steps_and steps (turn false s.options steps m s.clauses []) in
    exits_none account registry s steps m row 1 c.take_traced.new.self (omega (arith, long))
    (turned_more account registry s steps m row 0 one.ecb inside at c.args.self.now c.take_traced.new.self had
    (c.take_traced.ensures.after account registry s so_far one.ecb one.is had.after had.open_still)
    (ap is_some (c.take_traced.ensures.exit account registry s so_far one.ecb one.is)))

pub returns-clause-after : goal.returns-clause-after
returns-clause-after c = λ account registry s steps clauses uses is are none.
    c.take_each.ensures.after account registry s steps
    (record { clauses = ap (map form_of_clause) c.clauses.ensures.value ∙ clauses; uses = uses }) are none

pub returns-clause-exit : goal.returns-clause-exit
returns-clause-exit c = λ account registry s steps clauses uses is are none.
    c.take_each.ensures.exit account registry s steps
    (record { clauses = ap (map form_of_clause) c.clauses.ensures.value ∙ clauses; uses = uses }) are none
