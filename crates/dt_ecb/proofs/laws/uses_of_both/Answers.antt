-- The uses of clauses, joined.
use Rattle.std.proofs.lemmas.List.Concat.{flat_map-append}
use Rattle.dt_program.specs.Program.{ClauseForm}
use Rattle.std.specs.List.{flat_map}
use Rattle.dt_ecb.specs.Shapes.{used_by}
use Rattle.dt_ecb.proofs.laws.uses_of_both.Goals as goal

pub returns : goal.returns
returns c a b = flat_map-append (λ (clause : ClauseForm). flat_map used_by clause.statements) a b
