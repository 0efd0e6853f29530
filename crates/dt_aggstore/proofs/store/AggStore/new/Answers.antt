-- A new store has nothing, and dropped nothing.
use Rattle.std.proofs.Common.{[], refl, sym, ap}
use Rattle.dt_aggstore.specs.EntryNames.{entries_named}
use Rattle.dt_aggstore.proofs.Choices.{no_choice}
use Rattle.dt_aggstore.proofs.Drops.{drops-new_past}
use Rattle.dt_aggstore.proofs.store.AggStore.new.Goals as goal

pub returns-clause-stands : goal.returns-clause-stands
returns-clause-stands c = record {
  size = refl;
  added = refl;
  dropped = sym (drops-new_past c.args.aggsize);
  numbers = tt;
  chosen = [];
  choice = no_choice c.args.aggsize;
  names = ap entries_named c.in_ok-new.ensures.items;
  cells = c.in_ok-with_capacity.ensures.items;
}
