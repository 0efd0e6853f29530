-- The slot is freed, and the hole is closed up.
use Rattle.std.proofs.Common.{length, refl, sym, ap, ◌∙◌, subst, arith, cond}
use Rattle.std.specs.Prelude.{◌≡◌, pos}
use Rattle.std.proofs.lemmas.List.{take_at, length-set}
use Rattle.dt_locals.specs.Hash.{home_in}
use Rattle.dt_locals.specs.History.{same_local}
use Rattle.dt_locals.specs.Slots.{HasValue, local_at}
use Rattle.dt_locals.proofs.Writing.{freed_values}
use Rattle.dt_locals.proofs.table.Table.free.Goals as goal

pub returns-clause-values : goal.returns-clause-values
returns-clause-values c = λ variable was has.
    let self = c.args.self.now in
    let slots = self.slots.items in
    let long : length c.close_up.new.slots ≡ self.slots.len =
    c.close_up.ensures.length ∙ ap length c.deref_mut.ensures.value ∙ simp length-set (omega (arith, self.slots.ok.0)) in
    let value = cond (same_local (local_at slots c.args.place) variable) (pos 0) was in
    subst (λ xs. HasValue xs variable value) (sym (take_at c.close_up.new.slots _ self.slots.len long))
    (c.close_up.ensures.values variable value
    (freed_values (home_in self.homes) slots self.hashed c.args.place (omega (arith, c.requires.within, self.slots.ok.0))
    c.requires.taken c.deref_mut.result.now _ refl c.deref_mut.ensures.value variable was has))
