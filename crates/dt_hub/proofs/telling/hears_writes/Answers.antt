-- What is to be shown of `hears_writes`.
use Rattle.std.proofs.Common.{List, ◌++◌, sym, ap}
use Rattle.dt_chain.specs.Writes.{Write}
use Rattle.dt_hub.proofs.telling.hears_writes.Goals as goal

pub returns-in_default-clause-published : goal.returns-in_default-clause-published
returns-in_default-clause-published g c =
    let told = c.args.reader.now.told in (told, ap (λ (p : List Write). p ++ told) (sym c.in_default.ensures))
