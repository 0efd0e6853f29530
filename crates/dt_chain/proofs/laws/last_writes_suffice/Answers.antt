-- The same last writes leave the same `Entries` and the same looks.
use Rattle.dt_chain.specs.laws.LastWrites.{same_entries, same_looks}
use Rattle.dt_chain.proofs.laws.last_writes_suffice.Goals as goal

pub returns-clause-entries : goal.returns-clause-entries
returns-clause-entries c = same_entries

pub returns-clause-looks : goal.returns-clause-looks
returns-clause-looks c = same_looks
