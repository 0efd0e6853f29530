-- What the proof of `own_probes` is told at its goals.
use Rattle.dt_machine.proofs.Spelling.{parsed, begin_spelled, end_spelled}
use Rattle.dt_machine.proofs.probes.own_probes.Goals as goal

pub unwrap-requires : goal.unwrap-requires
unwrap-requires c = parsed _ c.parse.result _ c.parse.ensures.none begin_spelled

pub unwrap-requires-2 : goal.unwrap-requires-2
unwrap-requires-2 c = parsed _ c.parse-2.result _ c.parse-2.ensures.none end_spelled
