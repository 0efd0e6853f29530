-- Nothing was taken.
use Rattle.std.proofs.Common.{ap, subst}
use Rattle.dt_life.specs.Options.{OptionsForm}
use Rattle.dt_life.specs.Forms.{form_of_options}
use Rattle.dt_life.specs.laws.Stores.{new_given}
use Rattle.dt_locals.specs.History.{new_locals_past}
use Rattle.dt_locals.specs.LocalsAreAt.{LocalsAreAt}
use Rattle.dt_speculation.specs.History.{new_spec_past}
use Rattle.dt_speculation.specs.IsAt.{SpecsAt}
use Rattle.dt_consumer.proofs.Tallying.{retallied}
use Rattle.dt_consumer.proofs.Tracings.{new_tallied}
use Rattle.dt_consumer.proofs.processors.Processors.new.Goals as goal

pub returns-clause-after : goal.returns-clause-after
returns-clause-after c = λ account registry s same room. record {
  each = retallied _ _ c.in_ok-fresh.field-0.items
      (new_tallied account registry s (form_of_options c.args.options) c.args.reserve same room) c.in_ok-fresh.ensures.empty;
  stores = new_given s c.args.options.aggsize c.in_ok-empty_stores.field-0.items
      (ap (λ (o : OptionsForm). o.aggsize) same) c.in_ok-empty_stores.ensures.fresh;
  locals = subst (λ (o : OptionsForm). LocalsAreAt (new_locals_past o.dynvarsize) c.in_ok-new.field-0) same
      c.in_ok-new.ensures.stands;
  specs = subst (λ (o : OptionsForm). SpecsAt (new_spec_past o.nspec o.specsize) c.in_ok-new-2.field-0) same
      c.in_ok-new-2.ensures.stands;
}
