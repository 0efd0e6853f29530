-- The numbers so far are added.
use Rattle.std.proofs.Common.{◌≡◌, ◌∷◌, ◌++◌, take}
use Rattle.std.specs.Fmt.{signed_decimal}
use Rattle.std.specs.List.{flat_map}
use Rattle.dt_names.specs.Bytes.{comma}
use Rattle.dt_proto.proofs.rows.push_more_numbers.Given as goal

abbrev pub invariant-loop-number : goal.invariant-loop-number
invariant-loop-number l = l.line.items
    ≡ l.fn.line.items ++ flat_map (λ number. comma ∷ signed_decimal number) (take l.number-index l.numbers)
