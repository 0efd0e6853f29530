-- The words from the place on are the cell and those after it.
use Rattle.std.proofs.Common.{◌≡◌, ◌+◌, ◌-◌, [], ◌∷◌, ◌++◌, length, take, drop, sym, ap, ◌∙◌, arith}
use Rattle.std.proofs.lemmas.List.{append-nil, append_assoc, drop_all, take_rest, length-drop}
use Rattle.std.specs.Int.{w64}
use Rattle.std.proofs.lemmas.Int.{to_z-of_z}
use Rattle.std.proofs.lemmas.List.Folds.{drop_split}
use Rattle.dt_aggfn.specs.Cells.{cell_words, cell_of}
use Rattle.dt_aggstore.proofs.cells.add_at.Goals as goal

pub returns : goal.returns
returns c = λ bag is cell.
    let cells = c.args.cells.now in
    let place = c.args.place in
    let end = place + cell_words c.args.function in
    let split : drop place cells ≡ cell_of c.args.function bag ++ drop end cells =
    drop_split cells place end (omega arith) ∙ ap (λ words. words ++ drop end cells) cell in
    let added = c.add.ensures.cell bag (drop end cells) is (take_rest cells place ∙ split) in
    ap (λ after. take place cells ++ (c.add.new.words ++ after))
    (drop_all (length cells - place) (drop place cells) (omega (arith, length-drop place cells)))
    ∙ ap (λ words. take place cells ++ words) (append-nil c.add.new.words ∙ added)
    ∙ ap (λ z. take place cells ++ (cell_of c.args.function (bag ++ z ∷ []) ++ drop end cells))
    (to_z-of_z w64 c.args.value c.ranges.value)
    ∙ sym (append_assoc (take place cells) (cell_of c.args.function (bag ++ c.args.value ∷ [])) (drop end cells))
