-- Which set-ups have the clauses that takings are lent.
use Rattle.std.specs.Prelude.{◌≡◌, map}
use Rattle.dt_lang.specs.Program.{form_of_clause}
use Rattle.dt_life.specs.Life.{SetUp, shapes_in}
use Rattle.dt_consumer.specs.Uses.{AreUses}
use Rattle.dt_consumer.specs.declared.enabled.Enabled.{Enabled}

-- A set-up has these clauses, and the uses are those of its aggregations.
pub record IsEnabledBy (s : SetUp) (enabled : Enabled) : Type 0 where
  pub clauses : map form_of_clause enabled.clauses.now ≡ s.clauses
  pub uses : AreUses (shapes_in s) s.clauses enabled.uses.now
