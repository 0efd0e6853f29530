-- The cells so far are closed up.
use Rattle.std.proofs.Common.{◌≡◌, ℕ, List, ◌+◌, ◌-◌, ◌++◌, take, drop, refl, sym, ap, ◌∙◌, length, arith}
use Rattle.std.specs.Vec.{vec_capacity}
use Rattle.std.proofs.lemmas.List.{with_items_is}
use Rattle.dt_aggstore.proofs.Words.{words_more_at, words_fit_at, close_gone_at, close_kept_at}
use Rattle.dt_aggstore.specs.EntryNames.{entries_named, cells_without}
use Rattle.dt_aggstore.specs.declared.entry_name.EntryName.{EntryName}
use Rattle.dt_aggstore.specs.declared.key.Aggregation.{Aggregation}
use Rattle.dt_aggstore.proofs.cells.close_up.Goals as goal
use Rattle.dt_aggstore.proofs.cells.close_up.Goals.{then-not-is, else-not-is}

pub move_down-requires-clause-within : goal.move_down-requires-clause-within
move_down-requires-clause-within c =
    omega (
      arith,
      c.requires,
      c.loop-name.invariant.from_is,
      c.loop-name.invariant.long,
      c.cell_words-words.ensures.words,
      ap length c.deref_mut.ensures.value,
      words_fit_at c.args.entries.now c.args.entries.now c.loop-name.name-index c.name-item.result refl
          c.loop-name-test.true
          c.name-item.is,
    )

pub overflow_add-to : goal.overflow_add-to
overflow_add-to c =
    omega (
      arith,
      c.requires,
      c.loop-name.invariant.from_is,
      c.loop-name.invariant.down,
      c.loop-name.invariant.long,
      c.cell_words-words.ensures.words,
      ap length c.deref_mut.ensures.value,
      c.deref_mut.type_inv,
      words_fit_at c.args.entries.now c.args.entries.now c.loop-name.name-index c.name-item.result refl
          c.loop-name-test.true
          c.name-item.is,
    )

pub overflow_add-from : goal.overflow_add-from
overflow_add-from c =
    omega (
      arith,
      c.requires,
      c.loop-name.invariant.from_is,
      c.loop-name.invariant.long,
      c.loop-name.cells.small,
      c.cell_words-words.ensures.words,
      words_fit_at c.args.entries.now c.args.entries.now c.loop-name.name-index c.name-item.result refl
          c.loop-name-test.true
          c.name-item.is,
    )

-- the same of other names for the cells and how far they are closed up
left_at : (aggregation : Aggregation) (entries : List EntryName) (k to' to from : ℕ) (cells' cells was : List ℕ) → to'
    ≡ to
    → cells' ≡ cells → take to cells ++ cells_without aggregation (entries_named (drop k entries)) (drop from cells) ≡ was
    → take to' cells' ++ cells_without aggregation (entries_named (drop k entries)) (drop from cells') ≡ was
left_at aggregation entries k to' to from cells' cells was e f g =
    ap (λ t. take t cells' ++ cells_without aggregation (entries_named (drop k entries)) (drop from cells')) e
    ∙ ap (λ xs. take to xs ++ cells_without aggregation (entries_named (drop k entries)) (drop from xs)) f ∙ g

pub loop-name-preserved : goal.loop-name-preserved
loop-name-preserved c = elim c.if-not-is.branch [
  | then-not-is w ↦ (
      let moved = w.move_down.new.cells in
      let now = c.loop-name.cells.items in
      let items : c.if-not-is.cells.items ≡ moved =
      ap (λ v. v.items) w.cells-is
      ∙ with_items_is c.loop-name.cells moved (omega (arith, w.move_down.auto.cells, w.deref_mut.ensures.len)) in
      let shape : moved ≡ take c.loop-name.to now
      ++ take (c.loop-name.from + c.cell_words-words.result - c.loop-name.from) (drop c.loop-name.from now)
      ++ drop (c.loop-name.to + c.cell_words-words.result) now =
      w.move_down.ensures
      ∙ ap (λ xs. take c.loop-name.to xs
      ++ take (c.loop-name.from + c.cell_words-words.result - c.loop-name.from) (drop c.loop-name.from xs)
      ++ drop (c.loop-name.to + c.cell_words-words.result) xs) w.deref_mut.ensures.value in
      record {
        down = omega (arith, w.to-is, c.loop-name.invariant.down);
        from_is = omega (
          arith,
          c.loop-name.invariant.from_is,
          c.cell_words-words.ensures.words,
          words_more_at c.args.entries.now c.args.entries.now c.loop-name.name-index c.name-item.result refl
              c.loop-name-test.true c.name-item.is,
        );
        long = omega (
          arith,
          ap length items,
          w.move_down.auto.cells,
          ap length w.deref_mut.ensures.value,
          c.loop-name.invariant.long,
        );
        capacity = ap vec_capacity w.cells-is ∙ c.loop-name.invariant.capacity;
        left = (left_at c.args.aggregation c.args.entries.now (c.loop-name.name-index + 1) c.if-not-is.to
            (c.loop-name.to + c.cell_words-words.result)
            (c.loop-name.from + c.cell_words-words.result) c.if-not-is.cells.items moved
            (cells_without c.args.aggregation (entries_named c.args.entries.now) c.args.cells.now.items)
            w.to-is items
            (close_kept_at c.args.aggregation c.args.entries.now c.loop-name.name-index c.name-item.result
            c.loop-name-test.true c.name-item.is now
            (cells_without c.args.aggregation (entries_named c.args.entries.now) c.args.cells.now.items) c.loop-name.from
            c.loop-name.to c.cell_words-words.result c.cell_words-words.ensures.words moved
            (sym c.is.ensures ∙ w.if-not-is.true) c.loop-name.invariant.down
            (omega (
              arith,
              c.requires,
              c.loop-name.invariant.from_is,
              c.loop-name.invariant.long,
              c.cell_words-words.ensures.words,
              words_fit_at c.args.entries.now c.args.entries.now c.loop-name.name-index c.name-item.result refl
                  c.loop-name-test.true c.name-item.is,
            )) shape c.loop-name.invariant.left));
      }
      )
  | else-not-is w ↦ (
      let items : c.if-not-is.cells.items ≡ c.loop-name.cells.items = ap (λ v. v.items) w.cells-is in
      record {
        down = omega (arith, w.to-is, c.loop-name.invariant.down);
        from_is = omega (
          arith,
          c.loop-name.invariant.from_is,
          c.cell_words-words.ensures.words,
          words_more_at c.args.entries.now c.args.entries.now c.loop-name.name-index c.name-item.result refl
              c.loop-name-test.true c.name-item.is,
        );
        long = ap length items ∙ c.loop-name.invariant.long;
        capacity = ap vec_capacity w.cells-is ∙ c.loop-name.invariant.capacity;
        left = (left_at c.args.aggregation c.args.entries.now
            (c.loop-name.name-index + 1) c.if-not-is.to c.loop-name.to
            (c.loop-name.from + c.cell_words-words.result) c.if-not-is.cells.items c.loop-name.cells.items
            (cells_without c.args.aggregation (entries_named c.args.entries.now) c.args.cells.now.items)
            w.to-is items
            (close_gone_at c.args.aggregation c.args.entries.now c.loop-name.name-index c.name-item.result
            c.loop-name-test.true c.name-item.is c.loop-name.cells.items
            (cells_without c.args.aggregation (entries_named c.args.entries.now) c.args.cells.now.items) c.loop-name.from
            c.loop-name.to c.cell_words-words.result c.cell_words-words.ensures.words
            (sym c.is.ensures ∙ w.if-not-is.false) c.loop-name.invariant.left));
      }
      )
]
