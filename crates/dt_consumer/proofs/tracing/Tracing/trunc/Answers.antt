-- An aggregation was truncated on every processor.
use Rattle.std.proofs.Common.{◌∷◌, ◌++◌, [], ◌∙◌, ap, length, refl, subst, sym}
use Rattle.std.specs.Global.{Vec}
use Rattle.std.proofs.lemmas.List.{append-nil}
use Rattle.dt_buffer.specs.History.{of_end}
use Rattle.dt_life.specs.Buffers.{comes_by, comes_by_steps}
use Rattle.dt_life.specs.Life.{tracing_steps}
use Rattle.dt_life.specs.Stores.{given_after}
use Rattle.dt_life.specs.Takings.{truncated}
use Rattle.dt_life.specs.TracingSteps.{locals_of, specs_of, truncates}
use Rattle.dt_life.specs.laws.Stores.{trunc_given}
use Rattle.dt_life.specs.laws.TracingSteps.{one_more}
use Rattle.dt_locals.specs.LocalsAreAt.{LocalsAreAt}
use Rattle.dt_speculation.specs.IsAt.{SpecsAt}
use Rattle.dt_consumer.specs.Keeps.{tally_after}
use Rattle.dt_consumer.specs.Tallies.{AreTallied}
use Rattle.dt_consumer.specs.declared.processor.Processor.{Processor}
use Rattle.dt_consumer.proofs.Snapping.{idle_locals, idle_specs, still_tally, truncates_idle}
use Rattle.dt_consumer.proofs.Tallying.{retallied}
use Rattle.dt_consumer.proofs.Tracings.{since_moved}
use Rattle.dt_consumer.proofs.tracing.Tracing.trunc.Goals as goal

pub returns-clause-truncated : goal.returns-clause-truncated
returns-clause-truncated c = λ account registry s name t is.
    let own = c.args.self.now.processors in
    let steps = tracing_steps account registry s in
    let later = steps ++ truncates name ∷ [] in
    record {
      lists = t.lists;
      traced = t.traced;
      all_lists = t.all_lists;
      processors = since_moved account registry s (truncated name ∷ s.since) _ _ (record {
        each = subst (λ (v : Vec Processor). AreTallied (tally_after account registry s later) v.items)
            (sym c.trunc.ensures.all)
            (retallied _ _ own.all.items
            (λ cpu. still_tally account registry s steps (truncates name) (truncates_idle name) cpu refl) t.processors.each);
        stores = trunc_given s steps name c.args.aggregation c.trunc.new.self.stores.items is
            (c.trunc.ensures.given (given_after s steps) t.processors.stores);
        locals = subst (LocalsAreAt (locals_of s.options later)) (sym c.trunc.ensures.locals)
            (idle_locals account registry s steps (truncates name) (truncates_idle name) own.locals t.processors.locals);
        specs = subst (SpecsAt (specs_of s.options later)) (sym c.trunc.ensures.specs)
            (idle_specs account registry s steps (truncates name) (truncates_idle name) own.specs t.processors.specs);
      });
      all_processors = ap (λ (v : Vec Processor). length v.items) c.trunc.ensures.all ∙ t.all_processors;
      uses = t.uses;
      history = t.history;
      seen = t.seen;
      standing = t.standing;
      end_last = λ running cpu.
          ap of_end (one_more (comes_by cpu) steps (truncates name) ∙ append-nil (comes_by_steps cpu steps))
          ∙ t.end_last running cpu;
    }
