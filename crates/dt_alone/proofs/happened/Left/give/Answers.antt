-- One contribution more was given.
use Rattle.std.proofs.Common.{map, take, ap, ◌∙◌, sym, ◌∷◌, [], ◌++◌, arith}
use Rattle.std.proofs.lemmas.Int.{ints}
use Rattle.std.proofs.lemmas.List.{map-append, take_more}
use Rattle.dt_aggstore.specs.History.{given}
use Rattle.dt_alone.specs.Happened.{given_as}
use Rattle.dt_life.specs.Uses.{given_then}
use Rattle.dt_life.specs.laws.Giving.{given_both, same_at}
use Rattle.dt_alone.proofs.happened.Left.give.Goals as goal

pub loop-one-preserved : goal.loop-one-preserved
loop-one-preserved c =
    let all = c.deref-one-items.result.now in
    let i = c.loop-one.one-index in
    let x = c.one-item.result in
    record {
      stands = λ past h.
          same_at _ _ c.add-kept.new.self
          (ap (λ n. given_then (given_then past (map given_as (take i all)))
          (given x.aggregation x.key.parts.items n ∷ [])) (omega (arith, ints))
          ∙ given_both past (map given_as (take i all)) (given_as x ∷ [])
          ∙ ap (given_then past)
          (sym (map-append given_as (take i all) (x ∷ []))
          ∙ ap (map given_as) (ap (λ y. take i all ++ y ∷ []) c.one-item.is
          ∙ sym (take_more all i x c.loop-one-test.true))))
          (c.add-kept.ensures.stands _ (c.loop-one.invariant.stands past h));
      counts = omega (arith, c.loop-one.invariant.counts, c.add-kept.ensures.added);
    }
