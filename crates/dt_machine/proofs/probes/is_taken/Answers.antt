-- What the proof of `is_taken` is told at its goals.
use Rattle.std.proofs.Common.{◌≢◌, List, All, length, subst, refl}
use Rattle.std.proofs.lemmas.List.{take_all}
use Rattle.std.proofs.lemmas.List.Elements.{All-more}
use Rattle.std.proofs.lemmas.Option.{slice_get_read}
use Rattle.dt_cred.specs.declared.probe.Probe.{Probe}
use Rattle.dt_machine.proofs.Spelling.{same_tuple, other_tuple}
use Rattle.dt_machine.proofs.probes.is_taken.Goals as goal

pub returns-then-is_same : goal.returns-then-is_same
returns-then-is_same c =
    let probes = c.args.probes.now in (
      c.loop-probe.probe-index,
      c.probe-item.result,
      slice_get_read probes (length probes) c.loop-probe.probe-index
          c.probe-item.result refl c.loop-probe-test.true c.probe-item.is,
      same_tuple c.probe-item.result.tuple c.args.tuple.now c.if-is_same.ensures,
    )

pub loop-probe-preserved : goal.loop-probe-preserved
loop-probe-preserved c =
    let P : Probe → Type 0 = λ p. p.tuple ≢ c.args.tuple.now in
    All-more (λ (p : Probe). p.tuple ≢ c.args.tuple.now) c.args.probes.now c.loop-probe.probe-index
    c.probe-item.result c.loop-probe-test.true c.loop-probe.invariant
    (subst P c.probe-item.is (other_tuple c.probe-item.result.tuple c.args.tuple.now c.if-is_same.ensures))

pub returns : goal.returns
returns c =
    let P : List Probe → Type 0 = All (λ (p : Probe). p.tuple ≢ c.args.tuple.now) in
    subst P (take_all c.loop-probe.probe-index c.args.probes.now c.loop-probe-test.false) c.loop-probe.invariant
