-- A contribution goes to the entry that is held, or to a new one.
use Rattle.std.proofs.Common.{◌≡◌, ◌+◌, ◌≤◌, ◌↔◌, ℤ, Bool, true, false, List, [], ◌∷◌, ◌++◌, length, take, drop, refl}
use Rattle.std.proofs.Common.{ap, ◌∙◌, subst, IsTrue, to_z, of_z, arith}
use Rattle.std.specs.Prelude.{FitsSigned, slice_range, Contains}
use Rattle.std.specs.Int.{w64}
use Rattle.std.proofs.lemmas.Int.{to_z-of_z}
use Rattle.std.proofs.lemmas.Bool.{false≢true}
use Rattle.std.proofs.lemmas.List.{with_items_is}
use Rattle.dt_aggfn.specs.Cells.{cell_words, cell_of}
use Rattle.dt_aggstore.specs.Indexed.{Indexed}
use Rattle.dt_aggstore.specs.Keys.{Entry, entry_cost, cost_of}
use Rattle.dt_aggstore.specs.History.{Past, after, given, contribution_count}
use Rattle.dt_aggstore.specs.Held.{entry_of, bag}
use Rattle.dt_aggstore.specs.EntryNames.{entries_named}
use Rattle.dt_aggstore.specs.IsAt.{IsAt, Makes}
use Rattle.dt_aggstore.specs.declared.limits.TheConstants.{ADDED_LIMIT}
use Rattle.dt_aggstore.specs.declared.key.Aggregation.{Aggregation}
use Rattle.dt_aggstore.specs.declared.key.KeyPart.{KeyPart}
use Rattle.dt_aggstore.specs.declared.store.AggStore.{AggStore}
use Rattle.dt_aggstore.proofs.Steps.{after_added, keeps_added, given_bag, cell_is, after_made, after_dropped}
use Rattle.dt_aggstore.proofs.Steps.{keeps_made}
use Rattle.dt_aggstore.proofs.Drops.{drops-given}
use Rattle.dt_aggstore.proofs.store.AggStore.add.Goals as goal

-- a store where none was found, made or not
made : (past : Past) (old new : AggStore) (at : IsAt past old) (aggregation : Aggregation) (key : List KeyPart)
    (value : ℤ)
    (b : Bool) → FitsSigned w64 value → (Contains (entries_named old.entries.items) (entry_of aggregation key) → ⊥)
    → Makes aggregation key value old.size (old.added + 1) old.dropped (entries_named old.entries.items)
    old.cells.items new b
    → IsAt (after past (given aggregation key value)) new
made past old new at aggregation key value true word none m =
    after_made past old at aggregation key value none new m.same_size m.same_count m.drops word
    (m.fits.0 refl) m.names m.all_cells
made past old new at aggregation key value false word none m =
    after_dropped past old at aggregation key value none new m.same_size m.same_count m.drops word
    (λ fits. false≢true (m.fits.1 fits)) m.names m.all_cells

pub returns-in-Ok-clause-stands : goal.returns-in-Ok-clause-stands
returns-in-Ok-clause-stands c = λ past at.
    let self = c.args.self.now in
    let key = c.args.key.now.parts.items in
    let words = cell_words c.args.aggregation.function in
    let lengths = c.cell_length.ensures.words in
    let lies = c.in-Ok.ensures.found in
    let then : c.deref_mut.result.now ≡ self.cells.items = c.deref_mut.ensures.value in
    let bag = bag past.events at.chosen c.args.aggregation key in
    let few : contribution_count past.events ≤ ADDED_LIMIT = omega (arith, at.added, self.few) in
    let added = c.add_at.ensures bag
    (given_bag past self at c.args.aggregation key c.args.value lengths c.in-Ok.place lies few)
    (ap (λ xs. slice_range xs c.in-Ok.place (c.in-Ok.place + words)) then
    ∙ cell_is past self at c.args.aggregation key c.args.value lengths c.in-Ok.place lies) in
    after_added past self at c.args.aggregation key c.args.value lengths c.in-Ok.place lies _ refl refl refl
    c.ranges.value c.place_of.ensures.same
    (with_items_is self.cells c.add_at.new.cells (omega (arith, c.add_at.auto.cells, ap length then, self.cells.ok))
    ∙ added
    ∙ ap (λ z. take c.in-Ok.place c.deref_mut.result.now ++ cell_of c.args.aggregation.function (bag ++ z ∷ [])
    ++ drop (c.in-Ok.place + words) c.deref_mut.result.now) (to_z-of_z w64 c.args.value c.ranges.value)
    ∙ ap (λ xs. take c.in-Ok.place xs ++ cell_of c.args.aggregation.function (bag ++ c.args.value ∷ [])
    ++ drop (c.in-Ok.place + words) xs) then)

pub returns-in-Ok-clause-keeps : goal.returns-in-Ok-clause-keeps
returns-in-Ok-clause-keeps c = λ past at.
    keeps_added past c.args.self.now at c.args.aggregation c.args.key.now.parts.items c.args.value c.in-Ok.place
    c.in-Ok.ensures.found

-- what is made of an entry beside the names that were there
abbrev MakesOf : Entry → List Entry → ℤ → AggStore → AggStore → Bool → Type 0
MakesOf entry names value old new made =
    Makes entry.aggregation entry.key value old.size (old.added + 1) old.dropped names old.cells.items new made

pub returns-in-Err-clause-stands : goal.returns-in-Err-clause-stands
returns-in-Err-clause-stands c = λ past at.
    let self = c.args.self.now in
    let key = c.args.key.now.parts.items in
    let new = c.insert.new.self in
    made past self new at c.args.aggregation key c.args.value c.insert.result c.ranges.value c.in-Err.ensures.none
    (subst (λ z. MakesOf (entry_of c.args.aggregation key) (entries_named self.entries.items) z self new c.insert.result)
    (to_z-of_z w64 c.args.value c.ranges.value)
    (subst (λ (e : Indexed). MakesOf (entry_of c.args.aggregation key) (entries_named e.items)
    (to_z w64 (of_z w64 c.args.value)) self new c.insert.result) c.place_of.ensures.same
    (subst (λ e. MakesOf e (entries_named c.place_of.new.self.items) (to_z w64 (of_z w64 c.args.value)) self new
    c.insert.result) c.in-Err.ensures.name c.insert.ensures)))

pub returns-in-Err-clause-keeps : goal.returns-in-Err-clause-keeps
returns-in-Err-clause-keeps c = λ past at.
    keeps_made past c.args.self.now at c.args.aggregation c.args.key.now.parts.items c.args.value
    c.in-Err.ensures.none c.insert.result
    (subst (λ (e : Indexed). IsTrue c.insert.result
    ↔ (entry_cost c.args.aggregation c.args.key.now.parts.items + cost_of (entries_named e.items) ≤ c.args.self.now.size))
    c.place_of.ensures.same
    (subst (λ (e : Entry). IsTrue c.insert.result
    ↔ (entry_cost e.aggregation e.key + cost_of (entries_named c.place_of.new.self.items) ≤ c.args.self.now.size))
    c.in-Err.ensures.name c.insert.ensures.fits))

pub returns-in-Ok-clause-drops : goal.returns-in-Ok-clause-drops
returns-in-Ok-clause-drops c = λ past at.
    drops-given past c.args.aggregation c.args.key.now.parts.items c.args.value true
    (returns-in-Ok-clause-keeps c past at)

pub returns-in-Err-clause-drops : goal.returns-in-Err-clause-drops
returns-in-Err-clause-drops c = λ past at.
    drops-given past c.args.aggregation c.args.key.now.parts.items c.args.value c.insert.result
    (returns-in-Err-clause-keeps c past at)
