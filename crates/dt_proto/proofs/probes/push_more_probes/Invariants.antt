-- The probes so far are added.
use Rattle.std.proofs.Common.{◌≡◌, ◌∷◌, ◌++◌, take}
use Rattle.std.specs.List.{flat_map}
use Rattle.dt_names.specs.Bytes.{comma}
use Rattle.dt_proto.specs.Reply.{probe_text}
use Rattle.dt_proto.proofs.probes.push_more_probes.Given as goal

abbrev pub invariant-loop-probe : goal.invariant-loop-probe
invariant-loop-probe l = l.line.items
    ≡ l.fn.line.items ++ flat_map (λ probe. comma ∷ probe_text probe) (take l.probe-index l.probes)
