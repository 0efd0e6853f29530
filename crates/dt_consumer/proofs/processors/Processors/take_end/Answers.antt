-- One ECB of END more was taken.
use Rattle.std.proofs.Common.{◌+◌, ◌-◌, ◌*◌, ◌<◌, true, List, length, sym, ap, subst, arith}
use Rattle.std.specs.List.{All}
use Rattle.dt_aggstore.specs.declared.limits.TheConstants.{ADDED_LIMIT}
use Rattle.dt_buffer.specs.declared.limits.TheConstants.{DROPS_LIMIT}
use Rattle.dt_ecb.specs.declared.parts.Ecb.{Ecb}
use Rattle.dt_life.specs.Following.{takings_by}
use Rattle.dt_life.specs.TracingSteps.{steps_and}
use Rattle.dt_life.specs.laws.Takings.{there_at}
use Rattle.dt_machine.specs.Context.{form_of_context}
use Rattle.dt_program.specs.declared.clause.TheConstants.{STATEMENTS_MAX}
use Rattle.dt_consumer.specs.Counts.{COMES_BY_ONE, COMES_MAX, GIVES_MAX}
use Rattle.dt_consumer.specs.Keeps.{AreAfter}
use Rattle.dt_consumer.proofs.Counted.{fails_more, none_more}
use Rattle.dt_consumer.proofs.Tallying.{at_most_more}
use Rattle.dt_consumer.proofs.Turning.{steps_more, turn}
use Rattle.std.proofs.lemmas.List.{take_all}
use Rattle.dt_consumer.proofs.processors.Processors.take_end.Goals as goal

pub take_one-exit-requires : goal.take_one-exit-requires
take_one-exit-requires c =
    let own = c.loop-ecb.self in
    let i = c.loop-ecb.ecb-index in
    record {
      there = omega (arith, c.requires.there, c.loop-ecb.invariant.len);
      placed = there_at c.deref-ecb-items.result.now i c.ecb-item.result (length c.args.enabled.now.clauses.now)
          (subst (All (λ (e : Ecb). e.clause < length c.args.enabled.now.clauses.now)) (sym c.deref-ecb-items.ensures.value)
          c.requires.placed) c.loop-ecb-test.true c.ecb-item.is;
      counts = at_most_more ((DROPS_LIMIT - COMES_MAX) + COMES_BY_ONE * i) (DROPS_LIMIT - COMES_BY_ONE) own.all.items
          (omega (arith, c.loop-ecb-test.true, c.args.list.now.few, ap length c.deref-ecb-items.ensures.value))
          (c.loop-ecb.invariant.counts (DROPS_LIMIT - COMES_MAX) c.requires.counts);
      fails = fails_more ((DROPS_LIMIT - COMES_MAX) + COMES_BY_ONE * i) (DROPS_LIMIT - COMES_BY_ONE) own
          (omega (arith, c.loop-ecb-test.true, c.args.list.now.few, ap length c.deref-ecb-items.ensures.value))
          (c.loop-ecb.invariant.fails (DROPS_LIMIT - COMES_MAX) c.requires.fails);
      gives = none_more ((ADDED_LIMIT - GIVES_MAX) + STATEMENTS_MAX * i) (ADDED_LIMIT - STATEMENTS_MAX) own.stores.items
          (omega (arith, c.loop-ecb-test.true, c.args.list.now.few, ap length c.deref-ecb-items.ensures.value))
          (c.loop-ecb.invariant.gives (ADDED_LIMIT - GIVES_MAX) c.requires.gives);
    }

pub loop-ecb-preserved : goal.loop-ecb-preserved
loop-ecb-preserved c =
    let i = c.loop-ecb.ecb-index in
    let new = c.take_one-exit.new.self in
    let row = c.deref-ecb-items.result.now in
    record {
      len = omega (arith, c.loop-ecb.invariant.len, c.take_one-exit.ensures.len);
      counts = λ n h. at_most_more ((n + COMES_BY_ONE * i) + COMES_BY_ONE) (n + COMES_BY_ONE * (i + 1)) new.all.items
          (omega arith) (c.take_one-exit.ensures.counts (n + COMES_BY_ONE * i) (c.loop-ecb.invariant.counts n h));
      fails = λ n h. fails_more ((n + COMES_BY_ONE * i) + COMES_BY_ONE) (n + COMES_BY_ONE * (i + 1)) new
          (omega arith) (c.take_one-exit.ensures.fails (n + COMES_BY_ONE * i) (c.loop-ecb.invariant.fails n h));
      gives = λ n h. none_more ((n + STATEMENTS_MAX * i) + STATEMENTS_MAX) (n + STATEMENTS_MAX * (i + 1)) new.stores.items
          (omega arith) (c.take_one-exit.ensures.gives (n + STATEMENTS_MAX * i) (c.loop-ecb.invariant.gives n h));
      turned = λ account registry s steps enabled are.
          let m = form_of_context c.args.context.now in
          let had = c.loop-ecb.invariant.turned account registry s steps enabled are in
          subst (λ xs. AreAfter account registry s xs new)
          (steps_more true s.options steps m s.clauses row i c.ecb-item.result c.loop-ecb-test.true c.ecb-item.is)
          (c.take_one-exit.ensures.after account registry s _ enabled had (λ e. cc));
    }

pub returns-clause-after : goal.returns-clause-after
returns-clause-after c = λ account registry s steps enabled are.
    let m = form_of_context c.args.context.now in
    let row = c.deref-ecb-items.result.now in
    subst (λ (es : List Ecb). AreAfter account registry s (steps_and steps (takings_by true s.options steps m s.clauses es)) c.loop-ecb.self)
    c.deref-ecb-items.ensures.value
    (subst (λ es. AreAfter account registry s (steps_and steps (turn true s.options steps m s.clauses es)) c.loop-ecb.self)
    (take_all c.loop-ecb.ecb-index row (omega arith))
    (c.loop-ecb.invariant.turned account registry s steps enabled are))

pub returns-clause-counts : goal.returns-clause-counts
returns-clause-counts c = λ n h.
    at_most_more (n + COMES_BY_ONE * c.loop-ecb.ecb-index) (n + COMES_MAX) c.loop-ecb.self.all.items
    (omega (arith, c.loop-ecb.auto.ecb-index-end, c.args.list.now.few, ap length c.deref-ecb-items.ensures.value))
    (c.loop-ecb.invariant.counts n h)

pub returns-clause-gives : goal.returns-clause-gives
returns-clause-gives c = λ n h.
    none_more (n + STATEMENTS_MAX * c.loop-ecb.ecb-index) (n + GIVES_MAX) c.loop-ecb.self.stores.items
    (omega (arith, c.loop-ecb.auto.ecb-index-end, c.args.list.now.few, ap length c.deref-ecb-items.ensures.value))
    (c.loop-ecb.invariant.gives n h)
