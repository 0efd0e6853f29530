-- The buffer of a processor was read.
use Rattle.std.proofs.Common.{◌∷◌, ◌∙◌, arith}
use Rattle.std.proofs.Math.ListN.{length-set}
use Rattle.dt_life.specs.Life.{tracing_steps}
use Rattle.dt_life.specs.Takings.{snapped}
use Rattle.dt_life.specs.TracingSteps.{reads}
use Rattle.dt_life.specs.laws.Stores.{gave_read}
use Rattle.dt_consumer.proofs.Snapping.{idle_locals, idle_specs, reads_idle, still_read, taken_snapped, taken_snapped-past}
use Rattle.dt_consumer.proofs.Tracings.{since_moved}
use Rattle.dt_consumer.proofs.tracing.Tracing.snap.Goals as goal

pub returns-then-cpu-len-clause-snapped : goal.returns-then-cpu-len-clause-snapped
returns-then-cpu-len-clause-snapped c = λ account registry s t.
    let own = c.args.self.now.processors in
    let all = own.all.items in
    let cpu = c.args.cpu in
    let steps = tracing_steps account registry s in
    record {
      lists = t.lists;
      traced = t.traced;
      all_lists = t.all_lists;
      processors = since_moved account registry s (snapped cpu ∷ s.since) _ _ (record {
        each = taken_snapped account registry s steps all cpu t.processors.each c.index_mut.result.now c.snap.new.self
            (omega arith) c.index_mut.ensures.value c.snap.ensures.stands c.snap.ensures.same;
        stores = gave_read s steps own.stores.items t.processors.stores cpu;
        locals = idle_locals account registry s steps (reads cpu) (reads_idle cpu) own.locals t.processors.locals;
        specs = idle_specs account registry s steps (reads cpu) (reads_idle cpu) own.specs t.processors.specs;
      });
      all_processors = length-set all cpu c.snap.new.self ∙ t.all_processors;
      uses = t.uses;
      history = t.history;
      seen = t.seen;
      standing = t.standing;
      end_last = λ running j. still_read steps cpu j (t.end_last running j);
    }

pub returns-else-cpu-len-clause-snapped : goal.returns-else-cpu-len-clause-snapped
returns-else-cpu-len-clause-snapped c = λ account registry s t.
    let own = c.args.self.now.processors in
    let cpu = c.args.cpu in
    let steps = tracing_steps account registry s in
    record {
      lists = t.lists;
      traced = t.traced;
      all_lists = t.all_lists;
      processors = since_moved account registry s (snapped cpu ∷ s.since) _ _ (record {
        each = taken_snapped-past account registry s steps own.all.items cpu t.processors.each (omega arith);
        stores = gave_read s steps own.stores.items t.processors.stores cpu;
        locals = idle_locals account registry s steps (reads cpu) (reads_idle cpu) own.locals t.processors.locals;
        specs = idle_specs account registry s steps (reads cpu) (reads_idle cpu) own.specs t.processors.specs;
      });
      all_processors = t.all_processors;
      uses = t.uses;
      history = t.history;
      seen = t.seen;
      standing = t.standing;
      end_last = λ running j. still_read steps cpu j (t.end_last running j);
    }
