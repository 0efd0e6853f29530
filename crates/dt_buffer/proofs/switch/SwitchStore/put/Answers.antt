-- A record is kept, or counted as dropped.
use Rattle.std.proofs.Common.{refl, arith}
use Rattle.dt_buffer.proofs.Keeping.{store_kept, store_dropped}
use Rattle.dt_buffer.proofs.switch.SwitchStore.put.Goals as goal

pub returns-then-bytes-self-clause-shows : goal.returns-then-bytes-self-clause-shows
returns-then-bytes-self-clause-shows c = λ size attempts s.
    store_kept size attempts c.args.bytes.now c.args.self.now _ s refl
    (rw (c.extend_from_slice.ensures.items, c.extend_from_slice.ensures.succeeds (omega arith)) refl) refl
    (omega arith)

pub returns-else-bytes-self-clause-shows : goal.returns-else-bytes-self-clause-shows
returns-else-bytes-self-clause-shows c = λ size attempts s.
    store_dropped size attempts c.args.bytes.now c.args.self.now _ s refl refl refl (omega arith)
