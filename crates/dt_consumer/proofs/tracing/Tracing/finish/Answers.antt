-- END fired, and that was all.
use Rattle.std.proofs.Common.{sym, subst, refl, arith}
use Rattle.dt_life.specs.declared.limits.TheConstants.{END}
use Rattle.dt_life.specs.Life.{shapes_in, tracing_steps}
use Rattle.dt_consumer.specs.Uses.{AreUses}
use Rattle.dt_consumer.proofs.Counted.{counted_on, failed_more, failed_on, given_more, given_on, one_more}
use Rattle.dt_consumer.proofs.Tracings.{end_fired, list_at}
use Rattle.dt_consumer.proofs.tracing.Tracing.finish.Goals as goal

pub invariant_of-self-clause-counted : goal.invariant_of-self-clause-counted
invariant_of-self-clause-counted c =
    let own = c.args.self.now in
    one_more own.seen c.fire_end.new.self.all.items
    (c.fire_end.ensures.counts _ (counted_on own.seen own.course own.processors.all.items c.requires.going own.counted))

pub invariant_of-self-clause-failed : goal.invariant_of-self-clause-failed
invariant_of-self-clause-failed c =
    let own = c.args.self.now in
    failed_more own.seen c.fire_end.new.self
    (c.fire_end.ensures.fails _ (failed_on own.seen own.course own.processors c.requires.going own.failed))

pub invariant_of-self-clause-given : goal.invariant_of-self-clause-given
invariant_of-self-clause-given c =
    let own = c.args.self.now in
    given_more own.seen c.fire_end.new.self.stores.items
    (c.fire_end.ensures.gives _ (given_on own.seen own.course own.processors.stores.items c.requires.going own.given))

pub returns-clause-ended : goal.returns-clause-ended
returns-clause-ended c = λ s t own.
    let account = c.args.account.now in
    let registry = c.args.machine.now.registry in
    let list = c.index-list.result.now in
    let its = list_at account registry s c.args.self.now.lists.items END list t.lists (omega arith) c.index-list.ensures in
    record {
      lists = t.lists;
      traced = t.traced;
      all_lists = t.all_lists;
      processors = end_fired account registry s c.args.end list c.fire_end.new.self its
          (c.fire_end.ensures.after s (tracing_steps account registry s)
          own (subst (AreUses (shapes_in s) s.clauses) (sym c.deref.ensures.value) t.uses) t.processors);
      all_processors = omega (arith, c.fire_end.ensures.len, t.all_processors);
      uses = t.uses;
      history = t.history;
      seen = t.seen;
      standing = refl;
      end_last = λ e. cc;
    }
