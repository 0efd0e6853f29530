-- One byte more: the item takes it or doesn't.
use Rattle.std.proofs.Common.{◌∙◌, arith}
use Rattle.std.proofs.lemmas.Grind.{common_steps}
use Rattle.dt_glob.specs.Test.{takes}
use Rattle.dt_glob.proofs.ReadyLemmas.{taken_more, not_taken_more}
use Rattle.dt_glob.proofs.TestLemmas.{takes_from_cases}
use Rattle.dt_glob.proofs.matcher.add_taker.Goals as goal
use Rattle.dt_glob.proofs.matcher.add_taker.Goals.{then-takes, else-takes}

pub loop-byte-preserved : goal.loop-byte-preserved
loop-byte-preserved c =
    let i = c.loop-byte.byte in
    let later = c.loop-byte.invariant.later in
    elim c.if-takes.branch [
      | then-takes w ↦ record {
        below = λ item t.
            taken_more c.args.takers.now c.loop-byte.takers c.if-takes.takers c.args.place i (takes item)
            (omega arith) w.takers-is
            (takes_from_cases item i c.takes.result (c.takes.ensures item t) ∙ w.if-takes.true)
            (c.loop-byte.invariant.below item t) later;
        later = λ k le. let same = later k (omega arith) in grind (arith, common_steps);
      }
      | else-takes w ↦ record {
        below = λ item t.
            not_taken_more c.args.takers.now c.loop-byte.takers c.if-takes.takers c.args.place i (takes item)
            w.takers-is (takes_from_cases item i c.takes.result (c.takes.ensures item t) ∙ w.if-takes.false)
            (c.loop-byte.invariant.below item t) later;
        later = λ k le. let same = later k (omega arith) in grind (arith, common_steps);
      }
    ]
