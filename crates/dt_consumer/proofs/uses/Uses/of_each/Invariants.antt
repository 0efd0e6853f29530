-- The uses of the clauses so far.
use Rattle.std.proofs.Common.{map, take}
use Rattle.dt_ecb.specs.Forms.{shapes_of}
use Rattle.dt_lang.specs.Program.{form_of_clause}
use Rattle.dt_consumer.specs.Uses.{AreUses}
use Rattle.dt_consumer.proofs.uses.Uses.of_each.Given as goal

abbrev pub invariant-loop-clause : goal.invariant-loop-clause
invariant-loop-clause l =
    AreUses (shapes_of l.shapes) (map form_of_clause (take l.clause-index l.clauses)) l.uses.items
