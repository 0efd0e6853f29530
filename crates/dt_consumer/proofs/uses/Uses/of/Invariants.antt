-- The uses of the statements so far.
use Rattle.std.proofs.Common.{◌≡◌, ◌≤◌, length, map, take}
use Rattle.dt_ecb.specs.Forms.{shapes_of}
use Rattle.dt_lang.specs.Program.{form_of_statement}
use Rattle.dt_consumer.specs.Uses.{form_of_use}
use Rattle.dt_life.specs.Aggregations.{uses_by}
use Rattle.dt_consumer.proofs.uses.Uses.of.Given as goal

abbrev pub invariant-loop-statement : goal.invariant-loop-statement
invariant-loop-statement l = record {
  uses : map form_of_use l.all.items
      ≡ uses_by (shapes_of l.shapes) (map form_of_statement (take l.statement-index l.statement-items));
  few : length l.all.items ≤ l.statement-index;
}
