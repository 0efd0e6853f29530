-- The drops of a ring.
use Rattle.std.proofs.Common.{false, subst}
use Rattle.dt_buffer.proofs.Pasts.{ring_shown}
use Rattle.dt_buffer.specs.IsAt.{StoreIsAt}
use Rattle.dt_buffer.specs.declared.principal.Store.{Store}
use Rattle.dt_buffer.proofs.principal.Principal.drops.Goals as goal

pub returns-in-Ring-clause-shows : goal.returns-in-Ring-clause-shows
returns-in-Ring-clause-shows c = λ past s.
    let P : Store → Type 0 = λ x. StoreIsAt past x in
    (c.in-Ring.store.bytes.items, false, ring_shown past c.in-Ring.store (subst P c.in-Ring.is s))
