-- One idle processor more.
use Rattle.std.proofs.Common.{◌≡◌, sym, subst, None, IfSome, slice_get, arith}
use Rattle.dt_steps.specs.declared.due.DueOffers.{DueOffers}
use Rattle.dt_steps.proofs.FreeSeats.{each_pushed}
use Rattle.dt_steps.proofs.due.idle_processors.Goals as goal

pub loop-cpu-preserved : goal.loop-cpu-preserved
loop-cpu-preserved c = record {
  count = search (arith, c.loop-cpu.invariant.count);
  idle = λ cpu.
      subst (λ items. IfSome (slice_get items cpu) (λ looked. None ≡ looked.context)) (sym c.in_ok-push.ensures.items)
      (each_pushed (λ (looked : DueOffers). None ≡ looked.context) c.loop-cpu.processors.items c.idle.result
      c.loop-cpu.invariant.idle c.idle.ensures cpu);
}
