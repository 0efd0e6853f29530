-- One entry more was seen.
use Rattle.std.proofs.Common.{ℕ, length, take, sym, ap, ◌∙◌, subst, refl, arith}
use Rattle.std.specs.Prelude.{Contains}
use Rattle.std.proofs.lemmas.List.{length_push}
use Rattle.indexmap.specs.IndexMap.{spare}
use Rattle.dt_aggstore.specs.EntryNames.{entry_named, entries_named}
use Rattle.dt_aggstore.specs.Keys.{without}
use Rattle.dt_aggstore.specs.declared.entry_name.EntryName.{EntryName}
use Rattle.dt_aggstore.proofs.Indexing.{put_gone, put_copy, names_more, not_before, words_left}
use Rattle.std.specs.Map.{keys_of, values_of}
use Rattle.dt_aggstore.specs.EntryNames.{words_of}
use Rattle.dt_aggstore.specs.Indexed.{places_from}
use Rattle.std.proofs.Common.{HashMap, BuildHasherDefault, FoldHasher}
use Rattle.dt_aggstore.proofs.entry_index.put_others.Goals as goal
use Rattle.dt_aggstore.proofs.entry_index.put_others.Goals.{then-not-is, else-not-is}

abbrev Index : Type 0
Index = HashMap EntryName ℕ (BuildHasherDefault FoldHasher)

pub loop-name-init : goal.loop-name-init
loop-name-init c = record {
  put = record {
    names = ap (λ es. entries_named (keys_of es)) c.requires.empty;
    places = ap values_of c.requires.empty;
    place_is = refl;
  };
  room = omega arith;
  few = omega (arith, ap length c.requires.empty);
}

pub put-requires-clause-new : goal.put-requires-clause-new
put-requires-clause-new c = λ among.
    not_before c.args.entries.now c.loop-name.name-index c.name-item.result c.loop-name-test.true c.name-item.is
    c.args.aggregation c.requires.apart
    (subst (Contains _) c.copy.ensures
    (subst (λ names. Contains names (entry_named c.copy.result)) c.loop-name.invariant.put.names among))

pub overflow_add-place : goal.overflow_add-place
overflow_add-place c =
    omega (
      arith,
      c.requires.words,
      c.loop-name.invariant.put.place_is,
      c.cell_words-place.ensures.words,
      words_left c.args.entries.now c.loop-name.name-index c.name-item.result c.loop-name-test.true c.name-item.is
          c.args.aggregation,
    )

pub loop-name-preserved : goal.loop-name-preserved
loop-name-preserved c =
    let i = c.loop-name.name-index in
    let x = c.name-item.result in
    let seen = entries_named (take i c.args.entries.now) in
    let so_far = c.loop-name.invariant.put in
    let more = names_more c.args.entries.now i x c.loop-name-test.true c.name-item.is in
    elim c.if-not-is.branch [
      | then-not-is w ↦ (
          let new = ap (λ (m : Index). m.entries) w.index-is ∙ w.put.ensures.entries in
          let longer = ap length new ∙ length_push c.loop-name.index.entries (w.copy.result, c.loop-name.place) in
          record {
            put = put_copy c.args.aggregation seen c.loop-name.index.entries c.loop-name.place so_far _ _ _ _ x
                w.copy.result more new w.place-is w.cell_words-place.ensures.words w.copy.ensures
                (sym c.is.ensures ∙ w.if-not-is.true);
            room = omega (
              arith,
              c.loop-name.invariant.room,
              w.put.ensures.spare,
              longer,
              ap (λ (m : Index). spare m) w.index-is,
            );
            few = omega (arith, c.loop-name.invariant.few, longer);
          })
      | else-not-is w ↦ (
          let gone = put_gone c.args.aggregation seen c.loop-name.index.entries c.loop-name.place so_far (entry_named x)
          (sym c.is.ensures ∙ w.if-not-is.false) in
          let same = ap (λ (m : Index). m.entries) w.index-is in
          record {
            put = record {
              names = ap (λ es. entries_named (keys_of es)) same ∙ gone.names ∙ ap (without c.args.aggregation) (sym more);
              places = ap values_of same ∙ gone.places
                  ∙ ap (λ es. places_from 0 (without c.args.aggregation es)) (sym more);
              place_is = w.place-is ∙ gone.place_is ∙ ap (λ es. words_of (without c.args.aggregation es)) (sym more);
            };
            room = omega (arith, c.loop-name.invariant.room, ap length same, ap (λ (m : Index). spare m) w.index-is);
            few = omega (arith, c.loop-name.invariant.few, ap length same);
          })
    ]
