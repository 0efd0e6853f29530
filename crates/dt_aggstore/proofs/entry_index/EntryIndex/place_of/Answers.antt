-- What the index answers is where the cell lies.
use Rattle.std.proofs.Common.{◌≡◌, ℕ, List, zip, sym, ap, ◌∙◌, subst, is_some}
use Rattle.std.specs.Prelude.{IfSome, IfNone, Contains}
use Rattle.std.specs.Map.{lookup, keys_of, values_of}
use Rattle.dt_aggstore.specs.EntryNames.{entries_named, LiesAt}
use Rattle.dt_aggstore.specs.Held.{entry_of}
use Rattle.dt_aggstore.specs.Indexed.{Indexed, places_from}
use Rattle.dt_aggstore.specs.Keys.{Entry}
use Rattle.dt_aggstore.specs.declared.entry_name.EntryName.{EntryName}
use Rattle.dt_aggstore.proofs.Indexing.{is_named, tests_alike, zipped, found_lies, none_found, not_some}
use Rattle.dt_aggstore.proofs.entry_index.EntryIndex.place_of.Goals as goal

-- entries with places, as they are seen
record Seen (es : List (EntryName × ℕ)) (items : List EntryName) : Type 0 where
  pub zips : zip (keys_of es) (values_of es) ≡ zip items (places_from 0 (entries_named items))

module _ (entry : Entry) (es : List (EntryName × ℕ)) (items : List EntryName) (seen : Seen es items) where
  in_view : lookup (is_named entry) es ≡ lookup (is_named entry) (zip items (places_from 0 (entries_named items)))
  in_view = ap (lookup (is_named entry)) (zipped es ∙ seen.zips)

  lies : IfSome (lookup (is_named entry) es) (LiesAt (entries_named items) entry)
  lies = subst (λ found. IfSome found (LiesAt (entries_named items) entry)) (sym in_view) (found_lies entry items)

  lacks : IfNone (lookup (is_named entry) es) (Contains (entries_named items) entry → ⊥)
  lacks = subst (λ found. IfNone found (Contains (entries_named items) entry → ⊥)) (sym in_view) (none_found entry items)

as_seen : (es : List (EntryName × ℕ)) (view : Indexed)
    → zip (keys_of es) (values_of es) ≡ zip view.items view.places
    → view.places ≡ places_from 0 (entries_named view.items) → Seen es view.items
as_seen es view is at = record { zips = is ∙ ap (λ places. zip view.items places) at }

pub returns-in-Some-clause-found : goal.returns-in-Some-clause-found
returns-in-Some-clause-found c =
    let self = c.args.self.now in
    let es = c.self.inside.index.entries in
    let entry = entry_of c.args.aggregation c.args.key.now.parts.items in
    let seen = as_seen es self (ap (λ (v : Indexed). zip v.items v.places) c.self.view_is) c.requires in
    subst (λ found. IfSome found (LiesAt (entries_named self.items) entry)) c.in-Some.ensures (lies entry es self.items seen)

pub returns-in-None-clause-none : goal.returns-in-None-clause-none
returns-in-None-clause-none c =
    let self = c.args.self.now in
    let es = c.self.inside.index.entries in
    let entry = entry_of c.args.aggregation c.args.key.now.parts.items in
    let seen = as_seen es self (ap (λ (v : Indexed). zip v.items v.places) c.self.view_is) c.requires in
    let by_key = ap (λ eq. lookup (eq c.write.new.self) es) tests_alike ∙ ap (λ e. lookup (is_named e) es) c.write.ensures in
    let Lacks : Type 0 = Contains (entries_named self.items) entry → ⊥ in
    not_some Lacks (lookup (is_named entry) es)
    (sym (ap is_some by_key) ∙ sym c.get_index_of.ensures.found ∙ ap is_some c.in-None.is)
    (lacks entry es self.items seen)

pub returns-in-Some-get_index_of-clause-found : goal.returns-in-Some-get_index_of-clause-found
returns-in-Some-get_index_of-clause-found c =
    let self = c.args.self.now in
    let es = c.self.inside.index.entries in
    let entry = entry_of c.args.aggregation c.args.key.now.parts.items in
    let seen = as_seen es self (ap (λ (v : Indexed). zip v.items v.places) c.self.view_is) c.requires in
    let by_key = ap (λ eq. lookup (eq c.write.new.self) es) tests_alike ∙ ap (λ e. lookup (is_named e) es) c.write.ensures in
    subst (λ found. IfSome found (LiesAt (entries_named self.items) entry))
    (sym by_key ∙ sym c.in-Some-get_index_of.ensures.value ∙ c.index.ensures)
    (lies entry es self.items seen)
