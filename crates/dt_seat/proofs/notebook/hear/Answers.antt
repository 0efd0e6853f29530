-- What is to be shown of `hear`.
use Rattle.std.proofs.Common.{refl, inl}
use Rattle.dt_seat.proofs.notebook.hear.Goals as goal

pub returns-in_default-clause-told : goal.returns-in_default-clause-told
returns-in_default-clause-told g c = rw c.in_default.is (c.args.reader.now.told, refl)

pub returns-in_default-clause-order : goal.returns-in_default-clause-order
returns-in_default-clause-order g c = rw c.in_default.is (inl (c.args.reader.now.seen, refl))
