-- One more store.
use Rattle.std.proofs.Common.{arith}
use Rattle.std.proofs.lemmas.List.{length_push}
use Rattle.std.proofs.lemmas.List.Elements.{All-push}
use Rattle.dt_aggstore.specs.History.{new_past}
use Rattle.dt_aggstore.specs.IsAt.{IsAt}
use Rattle.dt_aggstore.specs.declared.store.AggStore.{AggStore}
use Rattle.dt_life.specs.Uses.{GivenAtMost}
use Rattle.dt_life.specs.laws.Lists.{pushed}
use Rattle.dt_life.proofs.stores.empty_stores.Goals as goal

pub loop-cpu-preserved : goal.loop-cpu-preserved
loop-cpu-preserved c =
    let all = c.loop-cpu.stores.items in
    let st = c.in_ok-new.field-0 in
    rw c.in_ok-push.ensures.items record {
      counted = omega (arith, length_push all st, c.loop-cpu.invariant.counted);
      fresh =
          pushed (λ cpu (s : AggStore). IsAt (new_past c.args.size) s) all st c.loop-cpu.invariant.fresh
          c.in_ok-new.ensures.stands;
      gives = All-push (GivenAtMost 0) all st c.loop-cpu.invariant.gives (omega (arith, c.in_ok-new.ensures.added));
    }
