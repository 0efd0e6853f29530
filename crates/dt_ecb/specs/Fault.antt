-- The words of restricted actions.
use Rattle.std.specs.Prelude.{ℕ, List, codes}
use Rattle.dt_ecb.specs.declared.fault.RestrictedAction.{RestrictedAction}
use Rattle.dt_ecb.specs.declared.fault.RestrictedAction.TheVariants.{Stack}

-- an action's name in programs
abbrev pub action_word : RestrictedAction → List ℕ
action_word Stack = codes "stack"
