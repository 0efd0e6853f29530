-- What is counted on all processors.
use Rattle.std.proofs.Common.{map, ap, ◌∙◌}
use Rattle.std.specs.List.{range_with_len}
use Rattle.dt_alone.specs.Happened.{counted_on}
use Rattle.dt_alone.proofs.Recounting.{all_counts}
use Rattle.dt_life.specs.laws.Options.{if_ok_map}
use Rattle.dt_alone.proofs.runner.Runner.counts.Goals as goal

pub returns-clause-all : goal.returns-clause-all
returns-clause-all c =
    if_ok_map _ _ c.counts_on.result
    (λ counts counted. λ account life h.
    let registry = c.args.machine.now.registry in
    counted
    ∙ ap (λ hs. map (λ cpu. counted_on c.args.what cpu hs) (range_with_len 0 c.cpus.result)) c.deref.ensures.value
    ∙ all_counts account registry life c.args.self.now h c.args.what c.cpus.result c.cpus.ensures.value)
    c.counts_on.ensures
