-- What the proof of `ProbeDesc::aligned` is told at its goals.
use Rattle.std.proofs.Common.{rules, tests}
use Rattle.std.proofs.lemmas.Iterator.Splits.{YieldsList-from_slice_split}
use Rattle.std.proofs.lemmas.Iterator.Consumers.{YieldsList-end}
use Rattle.dt_names.specs.Desc.{is_colon}
use Rattle.dt_names.proofs.Aligning.{turn, finished}
use Rattle.dt_names.proofs.desc.ProbeDesc.aligned.Goals as goal

pub loop-field-preserved : goal.loop-field-preserved
loop-field-preserved c = turn (λ x. x.now) c.loop-field.yielded _ _ _ _ _ c.loop-field.invariant

pub returns : goal.returns
returns c =
    let all = YieldsList-end
    (YieldsList-from_slice_split _ is_colon c.args.text.now (cc) (cc) (cc) (λ x r q k. search (rules, tests)))
    c.loop-field.yielded _ c.loop-field.yielded_by _ _ c.in-None.is c.next.ensures.steps in
    finished _ _ _ _ c.loop-field.invariant all.0 all.1
