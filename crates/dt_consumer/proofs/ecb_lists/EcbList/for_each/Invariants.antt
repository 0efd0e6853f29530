-- Each list has those of its probe among the ECBs so far.
use Rattle.std.proofs.Common.{◌≡◌, ◌==◌, ℕ, filter, map, slice_get, IfSome, take, vec_len}
use Rattle.dt_lang.specs.Program.{form_of_clause}
use Rattle.dt_consumer.specs.TracedEcbs.{traced_among}
use Rattle.dt_consumer.proofs.ecb_lists.EcbList.for_each.Given as goal

abbrev pub invariant-loop-ecb : goal.invariant-loop-ecb
invariant-loop-ecb l = record {
  lists : (probe : ℕ) → IfSome (slice_get l.lists.items probe)
      (λ list. list.ecbs.items ≡ filter (λ ecb. ecb.probe == probe) (take l.ecb-index l.ecbs));
  traced : (probe : ℕ) → IfSome (slice_get l.lists.items probe)
      (λ list. list.traced ≡ traced_among (map form_of_clause l.clauses) list.ecbs.items);
  counted : vec_len l.lists ≡ l.count;
}
