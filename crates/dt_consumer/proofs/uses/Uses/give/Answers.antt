-- One use more gave what is its own.
use Rattle.std.proofs.Common.{arith}
use Rattle.dt_consumer.proofs.Giving.{span_step, split_step}
use Rattle.dt_consumer.proofs.uses.Uses.give.Goals as goal

pub loop-one-preserved : goal.loop-one-preserved
loop-one-preserved c =
    let all = c.deref-one-items.result.now in
    let i = c.loop-one.one-index in
    let x = c.one-item.result in
    record {
      place = span_step all i x c.loop-one.place c.loop-one-test.true c.one-item.is c.loop-one.invariant.place;
      near = omega (arith, c.loop-one.invariant.near, x.few);
      stands = λ past h.
          split_step all i x c.loop-one.place c.args.values.now past c.give.new.store c.loop-one-test.true
          c.one-item.is
          c.loop-one.invariant.place (c.give.ensures.stands _ (c.loop-one.invariant.stands past h));
      counts = omega (arith, c.loop-one.invariant.counts, c.give.ensures.counts);
    }
