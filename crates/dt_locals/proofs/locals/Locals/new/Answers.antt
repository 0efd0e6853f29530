-- All are 0, and nothing was dropped.
use Rattle.std.proofs.Common.{sym, subst}
use Rattle.dt_locals.specs.Slots.{HasValue}
use Rattle.dt_locals.specs.laws.After.{fresh_value, fresh_drops}
use Rattle.dt_locals.proofs.locals.Locals.new.Goals as goal

pub returns-clause-stands : goal.returns-clause-stands
returns-clause-stands c = record {
  room = c.in_ok-new.ensures.room;
  values = λ variable. subst (HasValue c.in_ok-new.field-0.slots.items variable) (sym (fresh_value c.args.dynvarsize variable))
      (c.in_ok-new.ensures.values variable);
  taken = c.in_ok-new.ensures.taken;
  dropped = sym (fresh_drops c.args.dynvarsize);
}
