-- The part of one processor more was attempted.
use Rattle.std.proofs.Common.{◌==◌, ◌+◌, ◌-◌, [], ◌∷◌, if◌then◌else◌, length, ◌∙◌, subst, arith}
use Rattle.std.proofs.Math.ListN.{length-set}
use Rattle.dt_buffer.specs.declared.limits.TheConstants.{DROPS_LIMIT}
use Rattle.dt_consumer.specs.Counts.{AtMost}
use Rattle.dt_consumer.specs.Tallies.{IsTallied, with_records}
use Rattle.dt_life.specs.Takings.{part_out}
use Rattle.dt_record.specs.Taking.{committed}
use Rattle.dt_speculation.specs.Parts.{part_bytes}
use Rattle.dt_speculation.specs.laws.Parts.{part_is}
use Rattle.dt_consumer.proofs.Tallying.{each_all, each_here, each_last, each_more}
use Rattle.dt_consumer.proofs.committing.commit.Goals as goal

pub put_part-requires : goal.put_part-requires
put_part-requires c =
    let n = DROPS_LIMIT - 1 in
    let at = each_here AtMost (λ cpu. n) (λ cpu. n + 1) c.loop-cpu.all.items c.loop-cpu.cpu c.index_mut.result.now
    (omega arith) c.index_mut.ensures.value (c.loop-cpu.invariant.counts n c.requires.counts) in
    omega (arith, at.0)

pub loop-cpu-preserved : goal.loop-cpu-preserved
loop-cpu-preserved c = record {
  len = length-set c.loop-cpu.all.items c.loop-cpu.cpu c.put_part.new.self ∙ c.loop-cpu.invariant.len;
  counts = λ n h. each_more AtMost (λ cpu. n) (λ cpu. n + 1) c.loop-cpu.all.items c.loop-cpu.cpu c.index_mut.result.now _
      (omega arith) c.index_mut.ensures.value
      (λ at. (
        omega (arith, at.0, c.put_part.ensures.counts.0),
        omega (arith, at.1, c.put_part.ensures.counts.1),
        omega (arith, at.2, c.put_part.ensures.counts.2),
        omega (arith, at.3, c.put_part.ensures.counts.3),
      ))
      (c.loop-cpu.invariant.counts n h);
  committed = λ past tallies at last h.
      let cpu = c.loop-cpu.cpu in
      each_more IsTallied tallies
      (λ cpu. with_records c.args.in_end (part_out cpu past (committed c.args.id)) (tallies cpu))
      c.loop-cpu.all.items cpu c.index_mut.result.now c.put_part.new.self (omega arith) c.index_mut.ensures.value
      (λ k. subst
      (λ bytes. IsTallied (with_records c.args.in_end (if length bytes == 0 then [] else bytes ∷ []) (tallies cpu))
      c.put_part.new.self)
      (c.one_part.ensures.one past c.args.id cpu c.part.result.now (part_bytes past c.args.id cpu)
      (c.part.ensures past at) (part_is past c.args.id cpu))
      (c.put_part.ensures.put (tallies cpu) (last cpu) k))
      (c.loop-cpu.invariant.committed past tallies at last h);
}

pub returns-clause-counts : goal.returns-clause-counts
returns-clause-counts c = λ n h.
    each_all (AtMost (n + 1)) c.loop-cpu.all.items
    (each_last AtMost (λ cpu. n) (λ cpu. n + 1) c.loop-cpu.all.items c.loop-cpu.cpu (omega (arith, c.loop-cpu.invariant.len))
    (c.loop-cpu.invariant.counts n h))

pub returns-clause-committed : goal.returns-clause-committed
returns-clause-committed c = λ past tallies at last h.
    each_last IsTallied tallies
    (λ cpu. with_records c.args.in_end (part_out cpu past (committed c.args.id)) (tallies cpu))
    c.loop-cpu.all.items c.loop-cpu.cpu (omega (arith, c.loop-cpu.invariant.len))
    (c.loop-cpu.invariant.committed past tallies at last h)
