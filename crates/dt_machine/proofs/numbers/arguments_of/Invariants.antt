-- What holds at each turn of the loops of `arguments_of`.
use Rattle.std.proofs.Common.{◌≡◌, ◌-◌, ◌++◌, map, take, replicate, pos, All, IsSome, unwrap_or, ℤ, Option}
use Rattle.serde_json.specs.View.{view}
use Rattle.dt_machine.specs.Given.{signed}
use Rattle.dt_machine.proofs.numbers.arguments_of.Given as goal
use Rattle.dt_cred.specs.Limits.{argument_count}

abbrev pub invariant-loop-i : goal.invariant-loop-i
invariant-loop-i l = record {
  each : All IsSome (take l.i (map signed (map view l.list)));
  found : l.found ≡ map (λ (number : Option ℤ). unwrap_or number (pos 0)) (take l.i (map signed (map view l.list)))
      ++ replicate (argument_count - l.i) (pos 0);
}
