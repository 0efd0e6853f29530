-- The slot gets the variable and its value.
use Rattle.std.proofs.Common.{◌≡◌, to_z, of_z, w64, refl, sym, ap, ◌∙◌, arith}
use Rattle.std.specs.Prelude.{◌≢◌, pos}
use Rattle.std.proofs.lemmas.Bool.{false≢true}
use Rattle.std.proofs.lemmas.Int.{to_z-of_z}
use Rattle.std.proofs.lemmas.List.{length-set, get_or_default}
use Rattle.std.proofs.lemmas.List.Sums.{sum_by-set}
use Rattle.dt_locals.specs.Hash.{home_in}
use Rattle.dt_locals.specs.Slots.{free_slot, slot_at, value_at}
use Rattle.dt_locals.specs.declared.slots.LocalSlot.{LocalSlot}
use Rattle.dt_locals.specs.laws.Same.{set_yes, set_no}
use Rattle.dt_locals.specs.laws.Assigning.{Bit}
use Rattle.dt_locals.proofs.Hashing.{Counted}
use Rattle.dt_locals.proofs.Writing.{written_values, written_hashed}
use Rattle.dt_locals.proofs.table.Table.write.Goals as goal
use Rattle.dt_locals.proofs.table.Table.write.Goals.{then-is_free, else-is_free}

pub returns-clause-values : goal.returns-clause-values
returns-clause-values c =
    let self = c.args.self.now in
    written_values (home_in self.homes) self.slots.items self.hashed c.args.variable.now c.args.place c.requires.found _
    c.args.value c.requires.given _ refl (to_z-of_z w64 c.args.value c.ranges.value) refl

pub invariant_of-self-clause-hashed : goal.invariant_of-self-clause-hashed
invariant_of-self-clause-hashed c =
    let self = c.args.self.now in
    written_hashed (home_in self.homes) self.slots.items self.hashed c.args.variable.now c.args.place c.requires.found _
    c.args.value c.requires.given _ refl (to_z-of_z w64 c.args.value c.ranges.value) refl

pub invariant_of-self-clause-long : goal.invariant_of-self-clause-long
invariant_of-self-clause-long c = length-set c.args.self.now.slots.items c.args.place _ ∙ c.args.self.now.long

pub invariant_of-self-clause-counted : goal.invariant_of-self-clause-counted
invariant_of-self-clause-counted c =
    let self = c.args.self.now in
    let slots = self.slots.items in
    let place = c.args.place in
    let written : LocalSlot = record { variable = c.args.variable.now; value = to_z w64 (of_z w64 c.args.value) } in
    let given : written.value ≢ pos 0 =
    λ none. c.requires.given (sym (to_z-of_z w64 c.args.value c.ranges.value) ∙ none) in
    let one : Counted written ≡ 1 = ap Bit (set_yes written.value given) in
    let there : slot_at slots place ≡ c.index.result.now =
    get_or_default slots place free_slot c.index.result.now c.requires.found.within ∙ sym c.index.ensures in
    let value_is : value_at slots place ≡ c.index.result.now.value = ap (λ (s : LocalSlot). s.value) there in
    let more = sum_by-set Counted slots place written free_slot c.requires.found.within in
    elim c.if-is_free.branch [
      | then-is_free w ↦
          (let none : Counted (slot_at slots place) ≡ 0 =
          ap Bit (set_no (value_at slots place) (value_is ∙ c.is_free.ensures.0 w.if-is_free.true)) in
          omega (arith, w.taken-is, more, one, none, self.counted))
      | else-is_free w ↦
          (let some : Counted (slot_at slots place) ≡ 1 =
          ap Bit (set_yes (value_at slots place)
          (λ none. false≢true (sym w.if-is_free.false ∙ c.is_free.ensures.1 (sym value_is ∙ none)))) in
          omega (arith, w.taken-is, more, one, some, self.counted))
    ]
