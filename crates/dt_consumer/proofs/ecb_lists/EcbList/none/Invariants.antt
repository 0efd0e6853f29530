-- The lists so far are empty.
use Rattle.std.proofs.Common.{◌≡◌, ℕ, [], None, slice_get, IfSome, vec_len}
use Rattle.dt_consumer.proofs.ecb_lists.EcbList.none.Given as goal

abbrev pub invariant-loop-probe : goal.invariant-loop-probe
invariant-loop-probe l = record {
  empty : (probe : ℕ) → IfSome (slice_get l.lists.items probe) (λ list. (list.ecbs.items ≡ []) × (list.traced ≡ None));
  counted : vec_len l.lists ≡ l._probe;
}
