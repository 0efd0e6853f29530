-- Options without what code needs of them.
use Rattle.dt_life.specs.Options.{OptionsForm}
use Rattle.dt_life.specs.declared.options.Options.{Options}

-- options without their invariants
abbrev pub form_of_options : Options → OptionsForm
form_of_options o = record {
  bufsize = o.bufsize;
  bufpolicy = o.bufpolicy;
  aggsize = o.aggsize;
  histsize = o.histsize;
  dynvarsize = o.dynvarsize;
  nspec = o.nspec;
  specsize = o.specsize;
}
