-- One ECB more has its place.
use Rattle.dt_life.proofs.Placed.{placed_more}
use Rattle.dt_life.proofs.placing.placed_after.Goals as goal

pub loop-ecb-preserved : goal.loop-ecb-preserved
loop-ecb-preserved c =
    placed_more c.args.before c.args.ecbs.now c.loop-ecb.ecb-index c.ecb-item.result _ c.loop-ecb.placed.items
    c.push.new.self.items c.loop-ecb-test.true c.ecb-item.is c.loop-ecb.invariant c.in_ok-push.ensures.items
