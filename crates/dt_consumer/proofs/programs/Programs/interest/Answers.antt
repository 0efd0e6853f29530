-- The set takes in the probe of one ECB more.
use Rattle.std.proofs.Common.{List, subst}
use Rattle.std.proofs.lemmas.List.{take_all}
use Rattle.dt_ecb.specs.declared.parts.Ecb.{Ecb}
use Rattle.dt_consumer.proofs.Interests.{HasProbes, has_none, has_more}
use Rattle.dt_consumer.proofs.programs.Programs.interest.Goals as goal

pub loop-ecb-init : goal.loop-ecb-init
loop-ecb-init c = has_none c.new-interest.result c.new-interest.ensures

pub loop-ecb-preserved : goal.loop-ecb-preserved
loop-ecb-preserved c =
    has_more c.loop-ecb.interest c.insert.new.self c.deref-ecb-items.result.now c.loop-ecb.ecb-index c.ecb-item.result
    c.loop-ecb-test.true c.ecb-item.is c.insert.ensures c.loop-ecb.invariant

pub returns : goal.returns
returns c =
    let P : List Ecb → Type 0 = HasProbes c.loop-ecb.interest in
    subst P c.deref-ecb-items.ensures.value
    (subst P (take_all c.loop-ecb.ecb-index c.deref-ecb-items.result.now c.loop-ecb-test.false) c.loop-ecb.invariant)
