-- What the proof of `ProbeDesc::parse` is told at its goals.
use Rattle.std.proofs.Common.{sym, ◌∙◌}
use Rattle.dt_names.proofs.Aligning.{aligned_few}
use Rattle.dt_names.proofs.desc.ProbeDesc.parse.Goals as goal

pub returns-in-None-clause-found : goal.returns-in-None-clause-found
returns-in-None-clause-found c = record {
  few = c.in-None.ensures.few;
  each = c.in-None.ensures.each;
  aligned = sym (c.aligned.ensures ∙ aligned_few _ c.in-None.ensures.few);
}
