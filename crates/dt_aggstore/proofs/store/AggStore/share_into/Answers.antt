-- One entry more is shared.
use Rattle.std.proofs.Common.{◌≡◌, ℕ, ◌+◌, ◌-◌, ◌≤◌, List, [], ◌∷◌, ◌++◌, length, map, take, drop, sym, ap, ◌∙◌}
use Rattle.std.proofs.Common.{subst, arith, Vec, Global}
use Rattle.std.specs.Prelude.{slice_range, All}
use Rattle.std.proofs.lemmas.List.{take_all, length-take-le, length-drop, map-append}
use Rattle.std.proofs.lemmas.List.Elements.{All-push}
use Rattle.dt_aggfn.specs.Cells.{cell_words}
use Rattle.dt_aggstore.specs.EntryNames.{entries_named, words_of}
use Rattle.dt_aggstore.specs.Joining.{cell_shared, AreShares}
use Rattle.dt_aggstore.specs.declared.key.Aggregation.{Aggregation}
use Rattle.dt_aggstore.specs.Shares.{ShareForm}
use Rattle.dt_aggstore.proofs.Same.{aggregation_is}
use Rattle.dt_aggstore.proofs.Words.{within_at, read_at, words_more_at, words_fit_at}
use Rattle.dt_aggstore.proofs.Gathering.{Gathered, gathered_all, entry_passed, entry_shared}
use Rattle.dt_aggstore.proofs.Sharing.{shared_alike}
use Rattle.dt_aggstore.proofs.store.AggStore.share_into.Goals as goal
use Rattle.dt_aggstore.proofs.store.AggStore.share_into.Goals.{then-is+else-places-len+in_ok-push, else-is}

length_range : (xs : List ℕ) (place words : ℕ) → place + words ≤ length xs
    → length (slice_range xs place (place + words)) ≡ words
length_range xs place words fits =
    length-take-le (place + words - place) (drop place xs) (omega (arith, length-drop place xs)) ∙ omega arith

pub cell_at-cell-requires : goal.cell_at-cell-requires
cell_at-cell-requires g c =
    omega (
      arith,
      c.args.self.now.cells_are,
      c.loop-name.invariant.place_is,
      c.cell_words-words.ensures.words,
      ap length c.deref.ensures.value,
      words_fit_at c.args.self.now.entries.items c.names-name-items.result.now c.loop-name.name-index
          c.name-item.result
          c.names-name-items.ensures c.loop-name-test.true c.name-item.is,
    )

pub overflow_add-place : goal.overflow_add-place
overflow_add-place g c =
    omega (
      arith,
      c.args.self.now.cells_are,
      c.args.self.now.cells.small,
      c.loop-name.invariant.place_is,
      c.cell_words-words.ensures.words,
      words_fit_at c.args.self.now.entries.items c.names-name-items.result.now c.loop-name.name-index
          c.name-item.result
          c.names-name-items.ensures c.loop-name-test.true c.name-item.is,
    )

pub loop-name-preserved : goal.loop-name-preserved
loop-name-preserved g c =
    let told = g.S.KeyShare.told in
    let entries = c.args.self.now.entries.items in
    let items = c.names-name-items.result.now in
    let i = c.loop-name.name-index in
    let x = c.name-item.result in
    let same = c.names-name-items.ensures in
    let lt = c.loop-name-test.true in
    let function = c.args.aggregation.function in
    let place_is : c.loop-name.place + c.cell_words-words.result ≡ words_of (entries_named (take (i + 1) entries)) =
    omega (
      arith,
      c.loop-name.invariant.place_is,
      c.cell_words-words.ensures.words,
      words_more_at entries items i x same lt c.name-item.is,
    ) in
    elim c.if-is.branch [
      | then-is+else-places-len+in_ok-push w ↦
          (let own = aggregation_is c.args.aggregation x.aggregation (sym c.is.ensures ∙ w.if-is.true) in
          let pushed : map told c.if-is.shares.items ≡ map told c.loop-name.shares.items ++ told w.of.result ∷ [] =
          ap (λ (v : Vec g.row.S.Denot Global). map told v.items) w.shares-is ∙ ap (map told) w.in_ok-push.ensures.items
          ∙ map-append told c.loop-name.shares.items (w.of.result ∷ []) in
          record {
            place_is = place_is;
            words = λ all. subst (All (λ (share : ShareForm). length (cell_shared share) ≡ cell_words function)) (sym pushed)
                (All-push (λ (share : ShareForm). length (cell_shared share) ≡ cell_words function) (map told c.loop-name.shares.items) _
                (c.loop-name.invariant.words all)
                (ap length (w.of.ensures.cell ∙ w.cell_at-cell.ensures)
                ∙ length_range w.deref.result.now c.loop-name.place c.cell_words-words.result
                (omega (
                  arith,
                  c.args.self.now.cells_are,
                  c.loop-name.invariant.place_is,
                  c.cell_words-words.ensures.words,
                  ap length w.deref.ensures.value,
                  words_fit_at entries items i x same lt c.name-item.is,
                ))
                ∙ c.cell_words-words.ensures.words
                ∙ ap (λ (a : Aggregation). cell_words a.function) (sym own)));
            shares = λ past at bags a.
                subst (AreShares function
                (Gathered past c.args.self.now at c.args.aggregation bags (entries_named (take (i + 1) entries))))
                (sym pushed)
                (entry_shared past c.args.self.now at c.args.aggregation bags i x
                (within_at entries items i x same lt c.name-item.is)
                (read_at entries items i x same lt c.name-item.is) (map told c.loop-name.shares.items)
                (c.loop-name.invariant.shares past at bags a) c.cell_length.ensures.words
                (sym c.is.ensures ∙ w.if-is.true) c.loop-name.place c.cell_words-words.result
                c.loop-name.invariant.place_is c.cell_words-words.ensures.words _
                w.of.ensures.key
                (w.of.ensures.cell ∙ w.cell_at-cell.ensures
                ∙ ap (λ xs. slice_range xs c.loop-name.place (c.loop-name.place + c.cell_words-words.result))
                w.deref.ensures.value));
          })
      | else-is w ↦ (record {
        place_is = place_is;
        words = λ all. subst (All (λ (share : ShareForm). length (cell_shared share) ≡ cell_words function))
            (sym (ap (λ (v : Vec g.row.S.Denot Global). map told v.items) w.shares-is)) (c.loop-name.invariant.words all);
        shares = λ past at bags a.
            subst (AreShares function
            (Gathered past c.args.self.now at c.args.aggregation bags (entries_named (take (i + 1) entries))))
            (sym (ap (λ (v : Vec g.row.S.Denot Global). map told v.items) w.shares-is))
            (entry_passed past c.args.self.now at c.args.aggregation bags i x
            (within_at entries items i x same lt c.name-item.is)
            (read_at entries items i x same lt c.name-item.is) (map told c.loop-name.shares.items)
            (c.loop-name.invariant.shares past at bags a) (sym c.is.ensures ∙ w.if-is.false));
      })
    ]

pub returns-clause-shares : goal.returns-clause-shares
returns-clause-shares g c = λ past at bags a all_fit.
    let self = c.args.self.now in
    let all : entries_named (take c.loop-name.name-index self.entries.items) ≡ entries_named self.entries.items =
    ap entries_named (take_all c.loop-name.name-index self.entries.items
    (omega (arith, ap length c.names-name-items.ensures, c.loop-name-test.false))) in
    shared_alike c.args.aggregation.function _ _ (map g.S.KeyShare.told c.loop-name.shares.items)
    (λ key. ap (λ xs. Gathered past self at c.args.aggregation bags xs key) (all ∙ at.names)
    ∙ gathered_all past self at c.args.aggregation bags key)
    (c.loop-name.invariant.shares past at bags a)
