-- What the statements so far gave.
use Rattle.std.proofs.Common.{◌≡◌, ◌≤◌, ◌+◌, ◌*◌, length, map, take}
use Rattle.dt_ecb.specs.Forms.{shapes_of}
use Rattle.dt_lang.specs.Program.{form_of_statement}
use Rattle.dt_program.specs.declared.clause.TheConstants.{KEYS_MAX}
use Rattle.dt_alone.specs.Happened.{given_as}
use Rattle.dt_life.specs.Aggregations.{split_by, uses_by}
use Rattle.dt_life.specs.laws.Giving.{span}
use Rattle.dt_alone.proofs.happened.Contribution.all.Given as goal

abbrev pub invariant-loop-statement : goal.invariant-loop-statement
invariant-loop-statement l = record {
  given : map given_as l.given.items
      ≡ split_by (uses_by (shapes_of l.shapes) (map form_of_statement (take l.statement-index l.statements))) l.values;
  place : l.place ≡ span (uses_by (shapes_of l.shapes) (map form_of_statement (take l.statement-index l.statements)));
  near : l.place ≤ l.statement-index * (KEYS_MAX + 1);
  few : length l.given.items ≤ l.statement-index;
}
