-- One end more took its part out.
use Rattle.std.proofs.Common.{◌+◌, ◌-◌, map, take, arith, ◌∙◌}
use Rattle.dt_life.specs.Takings.{parts_out}
use Rattle.dt_record.specs.Forms.{form_of_end}
use Rattle.dt_record.specs.declared.parts.SpecEnd.TheVariants.{Commit}
use Rattle.dt_buffer.specs.declared.limits.TheConstants.{DROPS_LIMIT}
use Rattle.dt_program.specs.declared.clause.TheConstants.{STATEMENTS_MAX}
use Rattle.dt_consumer.proofs.Parting.{ended_step, freed_step}
use Rattle.dt_consumer.proofs.Tallying.{at_most_more, last_on}
use Rattle.dt_consumer.proofs.committing.end_speculations.Goals as goal

pub end_speculation-requires : goal.end_speculation-requires
end_speculation-requires c = record {
  counts = at_most_more ((DROPS_LIMIT - STATEMENTS_MAX) + c.loop-end.end-index) (DROPS_LIMIT - 1) c.loop-end.all.items
      (omega (arith, c.loop-end-test.true, c.requires.few))
      (c.loop-end.invariant.counts (DROPS_LIMIT - STATEMENTS_MAX) c.requires.counts);
}

pub loop-end-preserved : goal.loop-end-preserved
loop-end-preserved c = record {
  len = omega (arith, c.loop-end.invariant.len, c.end_speculation.ensures.len);
  fails = c.end_speculation.ensures.fails ∙ c.loop-end.invariant.fails;
  cpus = c.end_speculation.ensures.cpus ∙ c.loop-end.invariant.cpus;
  counts = λ n h. at_most_more ((n + c.loop-end.end-index) + 1) (n + (c.loop-end.end-index + 1)) _ (omega arith)
      (c.end_speculation.ensures.counts (n + c.loop-end.end-index) (c.loop-end.invariant.counts n h));
  freed = λ past at. freed_step past c.args.ends.now c.loop-end.end-index (Commit 0) c.loop-end-test.true _
      (c.end_speculation.ensures.freed _ (c.loop-end.invariant.freed past at));
  ended = λ past tallies at last h.
      ended_step past c.args.ends.now c.loop-end.end-index (Commit 0) c.loop-end-test.true c.args.in_end tallies _
      (c.end_speculation.ensures.ended _ _ (c.loop-end.invariant.freed past at)
      (λ cpu. last_on c.args.in_end
      (parts_out cpu past (map form_of_end (take c.loop-end.end-index c.args.ends.now))) (tallies cpu) (last cpu))
      (c.loop-end.invariant.ended past tallies at last h));
}

pub returns-clause-counts : goal.returns-clause-counts
returns-clause-counts c = λ n h.
    at_most_more (n + c.loop-end.end-index) (n + STATEMENTS_MAX) c.loop-end.all.items (omega (arith, c.requires.few))
    (c.loop-end.invariant.counts n h)
