-- One ECB more was taken, or the first that exits.
use Rattle.std.proofs.Common.{◌≡◌, ◌+◌, ◌-◌, ◌*◌, ◌<◌, None, true, false, List, length, sym, ap, ◌∙◌, subst, arith}
use Rattle.std.specs.List.{All}
use Rattle.std.specs.Option.{is_some}
use Rattle.dt_aggstore.specs.declared.limits.TheConstants.{ADDED_LIMIT}
use Rattle.dt_buffer.specs.declared.limits.TheConstants.{DROPS_LIMIT}
use Rattle.dt_ecb.specs.declared.parts.Ecb.{Ecb}
use Rattle.dt_life.specs.Following.{takings_by}
use Rattle.dt_life.specs.Takings.{first_exit}
use Rattle.dt_life.specs.TracingSteps.{steps_and}
use Rattle.dt_life.specs.laws.Takings.{there_at}
use Rattle.dt_machine.specs.Context.{form_of_context}
use Rattle.dt_program.specs.declared.clause.TheConstants.{STATEMENTS_MAX}
use Rattle.dt_consumer.specs.Counts.{COMES_BY_ONE, COMES_MAX, GIVES_MAX}
use Rattle.dt_consumer.specs.Keeps.{AreAfter}
use Rattle.dt_consumer.proofs.Counted.{fails_more, none_more}
use Rattle.dt_consumer.proofs.Tallying.{at_most_more}
use Rattle.dt_consumer.proofs.Turning.{exits_none, exits_so, turned_all, turned_more, turned_out}
use Rattle.dt_consumer.proofs.processors.Processors.take_each.Goals as goal

pub take_one-exit-requires : goal.take_one-exit-requires
take_one-exit-requires c =
    let own = c.loop-ecb.self in
    let i = c.loop-ecb.ecb-index in
    record {
      there = omega (arith, c.requires.there, c.loop-ecb.invariant.len);
      placed = there_at c.deref-ecb-items.result.now i c.ecb-item.result (length c.args.enabled.now.clauses.now)
          (subst (All (λ (e : Ecb). e.clause < length c.args.enabled.now.clauses.now)) (sym c.deref-ecb-items.ensures.value)
          c.requires.placed) c.loop-ecb-test.true c.ecb-item.is;
      counts = at_most_more ((DROPS_LIMIT - COMES_MAX) + COMES_BY_ONE * i) (DROPS_LIMIT - COMES_BY_ONE) own.all.items
          (omega (arith, c.loop-ecb-test.true, c.args.list.now.few, ap length c.deref-ecb-items.ensures.value))
          (c.loop-ecb.invariant.counts (DROPS_LIMIT - COMES_MAX) c.requires.counts);
      fails = fails_more ((DROPS_LIMIT - COMES_MAX) + COMES_BY_ONE * i) (DROPS_LIMIT - COMES_BY_ONE) own
          (omega (arith, c.loop-ecb-test.true, c.args.list.now.few, ap length c.deref-ecb-items.ensures.value))
          (c.loop-ecb.invariant.fails (DROPS_LIMIT - COMES_MAX) c.requires.fails);
      gives = none_more ((ADDED_LIMIT - GIVES_MAX) + STATEMENTS_MAX * i) (ADDED_LIMIT - STATEMENTS_MAX) own.stores.items
          (omega (arith, c.loop-ecb-test.true, c.args.list.now.few, ap length c.deref-ecb-items.ensures.value))
          (c.loop-ecb.invariant.gives (ADDED_LIMIT - GIVES_MAX) c.requires.gives);
    }

pub loop-ecb-preserved : goal.loop-ecb-preserved
loop-ecb-preserved c =
    let i = c.loop-ecb.ecb-index in
    let new = c.take_one-exit.new.self in
    let row = c.deref-ecb-items.result.now in
    record {
      len = omega (arith, c.loop-ecb.invariant.len, c.take_one-exit.ensures.len);
      counts = λ n h. at_most_more ((n + COMES_BY_ONE * i) + COMES_BY_ONE) (n + COMES_BY_ONE * (i + 1)) new.all.items
          (omega arith) (c.take_one-exit.ensures.counts (n + COMES_BY_ONE * i) (c.loop-ecb.invariant.counts n h));
      fails = λ n h. fails_more ((n + COMES_BY_ONE * i) + COMES_BY_ONE) (n + COMES_BY_ONE * (i + 1)) new
          (omega arith) (c.take_one-exit.ensures.fails (n + COMES_BY_ONE * i) (c.loop-ecb.invariant.fails n h));
      gives = λ n h. none_more ((n + STATEMENTS_MAX * i) + STATEMENTS_MAX) (n + STATEMENTS_MAX * (i + 1)) new.stores.items
          (omega arith) (c.take_one-exit.ensures.gives (n + STATEMENTS_MAX * i) (c.loop-ecb.invariant.gives n h));
      turned = λ account registry s steps enabled are none.
          let had = c.loop-ecb.invariant.turned account registry s steps enabled are none in
          turned_more account registry s steps (form_of_context c.args.context.now) row i c.ecb-item.result
          c.loop-ecb-test.true c.ecb-item.is c.loop-ecb.self new had
          (c.take_one-exit.ensures.after account registry s _ enabled had.after (λ e. had.open_still))
          (subst (λ o. is_some o ≡ false) (c.take_one-exit.ensures.exit account registry s _ enabled had.after)
          (sym c.if-is_some.ensures));
    }

pub returns-then-is_some-clause-after : goal.returns-then-is_some-clause-after
returns-then-is_some-clause-after c = λ account registry s steps enabled are none.
    let m = form_of_context c.args.context.now in
    let row = c.deref-ecb-items.result.now in
    let had = c.loop-ecb.invariant.turned account registry s steps enabled are none in
    let new = c.take_one-exit.new.self in
    subst (λ (es : List Ecb). AreAfter account registry s (steps_and steps (takings_by false s.options steps m s.clauses es)) new)
    c.deref-ecb-items.ensures.value
    (turned_out account registry s steps m row c.loop-ecb.ecb-index c.ecb-item.result c.loop-ecb-test.true
    c.ecb-item.is new had.stays
    (subst (λ o. is_some o ≡ true) (c.take_one-exit.ensures.exit account registry s _ enabled had.after)
    (sym c.if-is_some.ensures))
    (c.take_one-exit.ensures.after account registry s _ enabled had.after (λ e. had.open_still)))

pub returns-then-is_some-clause-exit : goal.returns-then-is_some-clause-exit
returns-then-is_some-clause-exit c = λ account registry s steps enabled are none.
    let m = form_of_context c.args.context.now in
    let row = c.deref-ecb-items.result.now in
    let had = c.loop-ecb.invariant.turned account registry s steps enabled are none in
    let same = c.take_one-exit.ensures.exit account registry s _ enabled had.after in
    subst (λ (es : List Ecb). c.take_one-exit.result ≡ first_exit (takings_by false s.options steps m s.clauses es))
    c.deref-ecb-items.ensures.value
    (same ∙ exits_so account registry s steps m row c.loop-ecb.ecb-index c.ecb-item.result c.loop-ecb-test.true
    c.ecb-item.is had.stays
    (subst (λ o. is_some o ≡ true) same (sym c.if-is_some.ensures)))

pub returns-clause-after : goal.returns-clause-after
returns-clause-after c = λ account registry s steps enabled are none.
    let m = form_of_context c.args.context.now in
    let row = c.deref-ecb-items.result.now in
    subst (λ (es : List Ecb). AreAfter account registry s (steps_and steps (takings_by false s.options steps m s.clauses es)) c.loop-ecb.self)
    c.deref-ecb-items.ensures.value
    (turned_all account registry s steps m row c.loop-ecb.ecb-index c.loop-ecb.self (omega arith)
    (c.loop-ecb.invariant.turned account registry s steps enabled are none))

pub returns-clause-exit : goal.returns-clause-exit
returns-clause-exit c = λ account registry s steps enabled are none.
    let m = form_of_context c.args.context.now in
    let row = c.deref-ecb-items.result.now in
    subst (λ (es : List Ecb). None ≡ first_exit (takings_by false s.options steps m s.clauses es))
    c.deref-ecb-items.ensures.value
    (exits_none account registry s steps m row c.loop-ecb.ecb-index c.loop-ecb.self (omega arith)
    (c.loop-ecb.invariant.turned account registry s steps enabled are none))

pub returns-then-is_some-clause-counts : goal.returns-then-is_some-clause-counts
returns-then-is_some-clause-counts c = λ n h.
    let i = c.loop-ecb.ecb-index in
    at_most_more ((n + COMES_BY_ONE * i) + COMES_BY_ONE) (n + COMES_MAX) c.take_one-exit.new.self.all.items
    (omega (arith, c.loop-ecb-test.true, c.args.list.now.few, ap length c.deref-ecb-items.ensures.value))
    (c.take_one-exit.ensures.counts (n + COMES_BY_ONE * i) (c.loop-ecb.invariant.counts n h))

pub returns-then-is_some-clause-gives : goal.returns-then-is_some-clause-gives
returns-then-is_some-clause-gives c = λ n h.
    let i = c.loop-ecb.ecb-index in
    none_more ((n + STATEMENTS_MAX * i) + STATEMENTS_MAX) (n + GIVES_MAX) c.take_one-exit.new.self.stores.items
    (omega (arith, c.loop-ecb-test.true, c.args.list.now.few, ap length c.deref-ecb-items.ensures.value))
    (c.take_one-exit.ensures.gives (n + STATEMENTS_MAX * i) (c.loop-ecb.invariant.gives n h))

pub returns-clause-counts : goal.returns-clause-counts
returns-clause-counts c = λ n h.
    at_most_more (n + COMES_BY_ONE * c.loop-ecb.ecb-index) (n + COMES_MAX) c.loop-ecb.self.all.items
    (omega (arith, c.loop-ecb.auto.ecb-index-end, c.args.list.now.few, ap length c.deref-ecb-items.ensures.value))
    (c.loop-ecb.invariant.counts n h)

pub returns-clause-gives : goal.returns-clause-gives
returns-clause-gives c = λ n h.
    none_more (n + STATEMENTS_MAX * c.loop-ecb.ecb-index) (n + GIVES_MAX) c.loop-ecb.self.stores.items
    (omega (arith, c.loop-ecb.auto.ecb-index-end, c.args.list.now.few, ap length c.deref-ecb-items.ensures.value))
    (c.loop-ecb.invariant.gives n h)
