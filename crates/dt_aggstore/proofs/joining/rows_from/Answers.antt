-- One share more is joined.
use Rattle.std.proofs.Common.{◌≡◌, ◌<◌, suc, get_or, map, List, [], ◌∷◌, ◌++◌, length, take, sym, ap, ◌∙◌, subst, arith}
use Rattle.std.specs.List.{AllZip}
use Rattle.std.proofs.lemmas.List.{get_or-map, length-map, take_all, take_more}
use Rattle.dt_aggstore.specs.Joining.{AreShares, IsAnswerRow, joined_at, joined_told}
use Rattle.dt_aggstore.specs.Shares.{ShareForm}
use Rattle.dt_aggstore.specs.declared.row.Row.{Row}
use Rattle.dt_aggstore.proofs.Rows.{first_joined, way_alike, zip_push}
use Rattle.dt_aggstore.proofs.Sharing.{at_own, bags_before, before_short, before_whole, none_after, shared_before, words_told}
use Rattle.dt_aggstore.proofs.joining.rows_from.Goals as goal

pub loop-share-init : goal.loop-share-init
loop-share-init g c = record {
  words = c.requires.first_words;
  made = λ bags a few. record {
    done = [];
    joined = first_joined c.args.function bags (g.S.KeyShare.told c.args.first.now) a;
    made = subst (AllZip (IsAnswerRow c.args.function) []) (sym {A = List Row} c.requires.empty) tt;
  };
}

pub join-requires-clause-others : goal.join-requires-clause-others
join-requires-clause-others g c =
    words_told g.S.KeyShare.told _ c.args.later.now c.requires.words c.loop-share.share-index c.share-item.result
    c.loop-share-test.true c.share-item.is

pub loop-share-preserved : goal.loop-share-preserved
loop-share-preserved g c = record {
  words = c.in_ok-last.ensures.words;
  made = λ bags a few.
      let function = c.args.function in
      let told = g.S.KeyShare.told in
      let first = told c.args.first.now in
      let later = map told c.args.later.now in
      let i = c.loop-share.share-index in
      let x = told c.share-item.result in
      let long = length-map c.args.later.now told in
      let is : x ≡ get_or later i x =
      ap told c.share-item.is ∙ sym (get_or-map told c.args.later.now i c.share-item.result x c.loop-share-test.true) in
      let so_far : List ShareForm = first ∷ take i later in
      let split : AreShares function bags (so_far ++ x ∷ []) =
      subst (λ xs. AreShares function bags (first ∷ xs))
      (take_more later i x (omega (arith, c.loop-share-test.true, long)) ∙ ap (λ y. take i later ++ y ∷ []) (sym is)) a in
      let before = at_own function bags so_far x split in
      let earlier = bags_before function bags so_far x split in
      let short = before_short function bags so_far x split in
      let a' = shared_before function bags so_far x split in
      let way = c.loop-share.invariant.made earlier a' (λ key. omega (arith, short key, few key)) in
      let here : suc i < length (first ∷ later) = omega (arith, c.loop-share-test.true, long) in
      way_alike function (joined_at x.key before.last earlier) bags (joined_told told c.in_ok-last.last) c.join.new.rows.items
      (before_whole function bags so_far x split)
      (c.in_ok-last.ensures.joins earlier before.last way
      (none_after function earlier (first ∷ later) (suc i) x (way.done ++ joined_told told c.loop-share.last ∷ []) here is
      c.requires.sorted a' way.joined)
      (omega (arith, short x.key, few x.key)) before.own before.cell);
}

pub returns : goal.returns
returns g c = λ bags a few.
    let function = c.args.function in
    let told = g.S.KeyShare.told in
    let last = joined_told told c.loop-share.last in
    let later = map told c.args.later.now in
    let way = c.loop-share.invariant.made bags
    (subst (λ xs. AreShares function bags (told c.args.first.now ∷ xs))
    (sym (take_all c.loop-share.share-index later (omega (arith, c.loop-share-test.false, length-map c.args.later.now told)))) a) few in
    record {
      done = way.done ++ last ∷ [];
      joined = way.joined;
      made = subst (AllZip (IsAnswerRow function) (way.done ++ last ∷ []))
          (sym {A = List Row} c.in_ok-push.ensures.items)
          (zip_push (IsAnswerRow function) way.done c.loop-share.rows.items last c.in_ok-row.field-0 way.made
          c.in_ok-row.ensures);
    }
