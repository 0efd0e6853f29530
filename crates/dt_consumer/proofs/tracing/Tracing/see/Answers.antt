-- A firing was seen, and perhaps it was the last.
use Rattle.std.proofs.Common.{◌≡◌, ◌+◌, ◌*◌, ◌≤◌, ◌==◌, ℕ, refl, sym, ap, ◌∙◌, subst, arith}
use Rattle.dt_machine.specs.Context.{form_of_context}
use Rattle.dt_consumer.specs.Keeps.{phase_by}
use Rattle.dt_life.specs.Life.{shapes_in, tracing_steps, with_event}
use Rattle.dt_life.specs.Takings.{seen}
use Rattle.dt_life.specs.declared.limits.TheConstants.{END}
use Rattle.std.specs.List.{All}
use Rattle.dt_consumer.specs.Counts.{AtMost, COMES_MAX, FailsAtMost, GIVES_MAX, must_be_left, own_firings}
use Rattle.dt_life.specs.Uses.{GivenAtMost}
use Rattle.dt_consumer.specs.Uses.{AreUses}
use Rattle.dt_consumer.proofs.Counted.{below_limit, counted_on, given_below, given_more, given_on, left_on, none_more}
use Rattle.dt_consumer.proofs.Counted.{failed_below, failed_more, failed_on, fails_more, one_left, one_more}
use Rattle.dt_consumer.proofs.Tallying.{at_most_more}
use Rattle.dt_consumer.proofs.Tracings.{becomes, end_fired, fired_at, list_at, traced_at}
use Rattle.dt_life.specs.laws.Tracings.{end_is, happens_last, happens_on}
use Rattle.dt_consumer.proofs.tracing.Tracing.see.Goals as goal

counted_is : (a b c d : ℕ) → a ≡ b → c ≡ d → (b + 1 == d) ≡ (a + 1 == c)
counted_is a b c d e f = ap (λ n. n + 1 == d) (sym e) ∙ ap (λ n. a + 1 == n) (sym f)

pub returns-in-Some-clause-seen : goal.returns-in-Some-clause-seen
returns-in-Some-clause-seen c = λ s firing t own at.
    let account = c.args.account.now in
    let registry = c.args.machine.now.registry in
    let m = form_of_context c.args.context.now in
    let list = c.index-list.result.now in
    let steps = tracing_steps account registry s in
    let known = traced_at s.clauses c.args.self.now.lists.items m.firing.probe list t.traced (omega (arith, c.requires.known))
    c.index-list.ensures in
    let fired = fired_at account registry s (seen firing) m list c.take-exit.new.self c.take-exit.result tt at refl
    (list_at account registry s c.args.self.now.lists.items m.firing.probe list t.lists (omega (arith, c.requires.known))
    c.index-list.ensures)
    (t.end_last c.requires.going)
    (c.take-exit.ensures.after account registry s steps
    own (subst (AreUses (shapes_in s) s.clauses) (sym c.deref.ensures.value) t.uses) known t.processors (t.end_last c.requires.going))
    (c.take-exit.ensures.exit account registry s steps
    own (subst (AreUses (shapes_in s) s.clauses) (sym c.deref.ensures.value) t.uses) known t.processors (t.end_last c.requires.going)) in
    let next = with_event s (seen firing) in
    let end_list = c.index-list-in-Some.result.now in
    let its = list_at account registry next c.args.self.now.lists.items END end_list t.lists (omega arith)
    c.index-list-in-Some.ensures in
    let ends = end_is account registry s (seen firing) c.take-exit.result _ fired.exited
    (counted_is c.args.self.now.seen _ c.args.self.now.history _ t.seen t.history)
    ∙ sym c.after.ensures ∙ c.in-Some.is in
    becomes account registry _ _ _ (happens_last account registry s (seen firing) c.in-Some.end ends)
    (record {
      lists = t.lists;
      traced = t.traced;
      all_lists = t.all_lists;
      processors = end_fired account registry next c.in-Some.end end_list c.fire_end.new.self its
          (c.fire_end.ensures.after next (tracing_steps account registry next)
          own (subst (AreUses (shapes_in s) s.clauses) (sym c.deref-in-Some.ensures.value) t.uses) fired.after);
      all_processors = omega (arith, c.fire_end.ensures.len, c.take-exit.ensures.len, t.all_processors);
      uses = t.uses;
      history = t.history;
      seen = omega (arith, t.seen);
      standing = refl;
      end_last = λ e. cc;
    })

pub returns-in_default-clause-seen : goal.returns-in_default-clause-seen
returns-in_default-clause-seen c = λ s firing t own at.
    let account = c.args.account.now in
    let registry = c.args.machine.now.registry in
    let m = form_of_context c.args.context.now in
    let list = c.index-list.result.now in
    let steps = tracing_steps account registry s in
    let known = traced_at s.clauses c.args.self.now.lists.items m.firing.probe list t.traced (omega (arith, c.requires.known))
    c.index-list.ensures in
    let fired = fired_at account registry s (seen firing) m list c.take-exit.new.self c.take-exit.result tt at refl
    (list_at account registry s c.args.self.now.lists.items m.firing.probe list t.lists (omega (arith, c.requires.known))
    c.index-list.ensures)
    (t.end_last c.requires.going)
    (c.take-exit.ensures.after account registry s steps
    own (subst (AreUses (shapes_in s) s.clauses) (sym c.deref.ensures.value) t.uses) known t.processors (t.end_last c.requires.going))
    (c.take-exit.ensures.exit account registry s steps
    own (subst (AreUses (shapes_in s) s.clauses) (sym c.deref.ensures.value) t.uses) known t.processors (t.end_last c.requires.going)) in
    let next = with_event s (seen firing) in
    let stays = end_is account registry s (seen firing) c.take-exit.result _ fired.exited
    (counted_is c.args.self.now.seen _ c.args.self.now.history _ t.seen t.history)
    ∙ sym c.after.ensures ∙ c.in_default.is in
    becomes account registry _ _ _ (happens_on account registry s (seen firing) stays)
    (record {
      lists = t.lists;
      traced = t.traced;
      all_lists = t.all_lists;
      processors = fired.after;
      all_processors = omega (arith, c.take-exit.ensures.len, t.all_processors);
      uses = t.uses;
      history = t.history;
      seen = omega (arith, t.seen);
      standing = ap phase_by (sym c.requires.going);
      end_last = λ e. fired.still;
    })

pub fire_end-requires-clause-counts : goal.fire_end-requires-clause-counts
fire_end-requires-clause-counts c =
    let own = c.args.self.now in
    below_limit own.seen own.history c.take-exit.new.self.all.items
    (left_on own.seen own.history own.course c.requires.going own.in_history) own.few
    (one_more own.seen c.take-exit.new.self.all.items
    (c.take-exit.ensures.counts _
    (counted_on own.seen own.course own.processors.all.items c.requires.going own.counted)))

pub invariant_of-self-clause-counted : goal.invariant_of-self-clause-counted
invariant_of-self-clause-counted c =
    let own = c.args.self.now in
    at_most_more _ (COMES_MAX * (own.seen + 1 + 2)) c.fire_end.new.self.all.items (omega arith)
    (c.fire_end.ensures.counts _
    (one_more own.seen c.take-exit.new.self.all.items
    (c.take-exit.ensures.counts _
    (counted_on own.seen own.course own.processors.all.items c.requires.going own.counted))))

pub invariant_of-self-clause-in_history : goal.invariant_of-self-clause-in_history
invariant_of-self-clause-in_history c =
    let own = c.args.self.now in
    omega (arith, left_on own.seen own.history own.course c.requires.going own.in_history)

pub invariant_of-self-in_default-clause-counted : goal.invariant_of-self-in_default-clause-counted
invariant_of-self-in_default-clause-counted c =
    let own = c.args.self.now in
    let now' = one_more own.seen c.take-exit.new.self.all.items
    (c.take-exit.ensures.counts _
    (counted_on own.seen own.course own.processors.all.items c.requires.going own.counted)) in
    subst (λ e. All (AtMost (COMES_MAX * (own.seen + 1 + own_firings e))) c.take-exit.new.self.all.items)
    (sym c.requires.going)
    (at_most_more _ (COMES_MAX * (own.seen + 1 + 1)) c.take-exit.new.self.all.items (omega arith) now')

pub invariant_of-self-in_default-clause-in_history : goal.invariant_of-self-in_default-clause-in_history
invariant_of-self-in_default-clause-in_history c =
    let own = c.args.self.now in
    subst (λ e. (own.seen + 1) + must_be_left e ≤ own.history) (sym c.requires.going)
    (one_left c.take-exit.result own.seen own.history
    (left_on own.seen own.history own.course c.requires.going own.in_history)
    (sym c.in_default.is ∙ c.after.ensures))

pub fire_end-requires-clause-gives : goal.fire_end-requires-clause-gives
fire_end-requires-clause-gives c =
    let own = c.args.self.now in
    given_below own.seen own.history c.take-exit.new.self.stores.items
    (left_on own.seen own.history own.course c.requires.going own.in_history) own.few
    (given_more own.seen c.take-exit.new.self.stores.items
    (c.take-exit.ensures.gives _
    (given_on own.seen own.course own.processors.stores.items c.requires.going own.given)))

pub invariant_of-self-clause-given : goal.invariant_of-self-clause-given
invariant_of-self-clause-given c =
    let own = c.args.self.now in
    none_more _ (GIVES_MAX * (own.seen + 1 + 2)) c.fire_end.new.self.stores.items (omega arith)
    (c.fire_end.ensures.gives _
    (given_more own.seen c.take-exit.new.self.stores.items
    (c.take-exit.ensures.gives _
    (given_on own.seen own.course own.processors.stores.items c.requires.going own.given))))

pub invariant_of-self-in_default-clause-given : goal.invariant_of-self-in_default-clause-given
invariant_of-self-in_default-clause-given c =
    let own = c.args.self.now in
    let now' = given_more own.seen c.take-exit.new.self.stores.items
    (c.take-exit.ensures.gives _
    (given_on own.seen own.course own.processors.stores.items c.requires.going own.given)) in
    subst (λ e. All (GivenAtMost (GIVES_MAX * (own.seen + 1 + own_firings e))) c.take-exit.new.self.stores.items)
    (sym c.requires.going)
    (none_more _ (GIVES_MAX * (own.seen + 1 + 1)) c.take-exit.new.self.stores.items (omega arith) now')

pub fire_end-requires-clause-fails : goal.fire_end-requires-clause-fails
fire_end-requires-clause-fails c =
    let own = c.args.self.now in
    failed_below own.seen own.history c.take-exit.new.self
    (left_on own.seen own.history own.course c.requires.going own.in_history) own.few
    (failed_more own.seen c.take-exit.new.self
    (c.take-exit.ensures.fails _
    (failed_on own.seen own.course own.processors c.requires.going own.failed)))

pub invariant_of-self-clause-failed : goal.invariant_of-self-clause-failed
invariant_of-self-clause-failed c =
    let own = c.args.self.now in
    fails_more _ (COMES_MAX * (own.seen + 1 + 2)) c.fire_end.new.self (omega arith)
    (c.fire_end.ensures.fails _
    (failed_more own.seen c.take-exit.new.self
    (c.take-exit.ensures.fails _
    (failed_on own.seen own.course own.processors c.requires.going own.failed))))

pub invariant_of-self-in_default-clause-failed : goal.invariant_of-self-in_default-clause-failed
invariant_of-self-in_default-clause-failed c =
    let own = c.args.self.now in
    let now' = failed_more own.seen c.take-exit.new.self
    (c.take-exit.ensures.fails _
    (failed_on own.seen own.course own.processors c.requires.going own.failed)) in
    subst (λ e. FailsAtMost (COMES_MAX * (own.seen + 1 + own_firings e)) c.take-exit.new.self)
    (sym c.requires.going)
    (fails_more _ (COMES_MAX * (own.seen + 1 + 1)) c.take-exit.new.self (omega arith) now')
