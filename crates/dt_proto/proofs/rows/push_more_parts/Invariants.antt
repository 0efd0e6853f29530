-- The parts so far are added.
use Rattle.std.proofs.Common.{◌≡◌, ◌∷◌, ◌++◌, take}
use Rattle.std.specs.List.{flat_map}
use Rattle.dt_names.specs.Bytes.{comma}
use Rattle.dt_proto.specs.Rows.{part_text}
use Rattle.dt_proto.proofs.rows.push_more_parts.Given as goal

abbrev pub invariant-loop-part : goal.invariant-loop-part
invariant-loop-part l = l.line.items
    ≡ l.fn.line.items ++ flat_map (λ part. comma ∷ part_text part) (take l.part-index l.parts)
