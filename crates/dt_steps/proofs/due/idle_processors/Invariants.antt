-- What holds at each turn of a loop of `idle_processors`.
use Rattle.std.proofs.Common.{◌≡◌, ℕ, None, IfSome, vec_len, slice_get}
use Rattle.dt_steps.proofs.due.idle_processors.Given as goal

abbrev pub invariant-loop-cpu : goal.invariant-loop-cpu
invariant-loop-cpu l = record {
  count : vec_len l.processors ≡ l._cpu;
  idle : (cpu : ℕ) → IfSome (slice_get l.processors.items cpu) (λ looked. None ≡ looked.context);
}
