-- Tracing ends without a cause where it goes on.
use Rattle.std.proofs.Common.{◌∷◌, refl, subst, sym}
use Rattle.dt_life.specs.Takings.{closed}
use Rattle.dt_life.specs.laws.Tracings.{steps_close}
use Rattle.dt_consumer.specs.Keeps.{AreAfter}
use Rattle.dt_consumer.proofs.Tracings.{since_moved}
use Rattle.dt_consumer.proofs.tracing.Tracing.close.Goals as goal

pub returns-then-is_running-clause-running : goal.returns-then-is_running-clause-running
returns-then-is_running-clause-running c = λ account registry s t off.
    let own = c.args.self.now.processors in
    record {
      lists = t.lists;
      traced = t.traced;
      all_lists = t.all_lists;
      processors = since_moved account registry s (closed ∷ s.since) _ own
          (subst (λ steps. AreAfter account registry s steps own) (sym (steps_close account registry s)) t.processors);
      all_processors = t.all_processors;
      uses = t.uses;
      history = t.history;
      seen = t.seen;
      standing = refl;
      end_last = λ e. cc;
    }
