-- The rings of a ring store hold what the definition says.
use Rattle.std.proofs.Common.{subst}
use Rattle.dt_buffer.specs.IsAt.{StoreIsAt}
use Rattle.dt_buffer.specs.declared.principal.Store.{Store}
use Rattle.dt_buffer.proofs.principal.Principal.ring.Goals as goal

pub returns-in-Ring : goal.returns-in-Ring
returns-in-Ring c = λ past s.
    let P : Store → Type 0 = λ x. StoreIsAt past x in
    let is = subst P c.in-Ring.is s in (
      is.0,
      record {
        passed = is.1.shows.passed;
        newest = is.1.shows.newest;
        kept = is.1.shows.kept;
        long = is.1.lengths;
      },
    )
