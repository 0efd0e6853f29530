-- By which number a variable is found.
use Rattle.std.specs.Prelude.{ℕ, ◌%◌}
use Rattle.std.specs.List.{fold}
use Rattle.std.specs.Hash as fed
use Rattle.std.specs.Hash.FoldHasher as folding
use Rattle.dt_locals.specs.declared.variable.LocalVariable.{LocalVariable}

-- the number of a variable: its process, its thread and its name, folded
unfoldable pub local_hash : LocalVariable → ℕ
local_hash variable =
    folding.finish
    (folding.write
    (fold folding.write (fold folding.write folding.initial (fed.u32 variable.pid)) (fed.u32 variable.tid)) variable.name)

-- where a variable's slots begin, of so many beginnings
unfoldable pub home_in : ℕ → LocalVariable → ℕ
home_in beginnings variable = local_hash variable % beginnings
