-- The places so far have the parts, or none.
use Rattle.std.proofs.Common.{◌≡◌, ◌<◌, ◌≤◌, ℕ, length, get_or}
use Rattle.std.specs.Prelude.{None, Some}
use Rattle.dt_aggstore.specs.Shares.{part_told}
use Rattle.dt_aggstore.specs.declared.key.KeyPart.{KeyPart}
use Rattle.dt_aggstore.specs.declared.part_share.PartShare.{PartShare}
use Rattle.dt_aggstore.proofs.places.put_parts.Given as goal

abbrev pub invariant-loop-place : goal.invariant-loop-place
invariant-loop-place l = record {
  long : length l.places ≡ length l.fn.places;
  told : (k : ℕ) (d : PartShare) (e : KeyPart) → k < l.place → k < length l.key.parts.items → part_told (get_or l.places k d) ≡ Some (get_or l.key.parts.items k e);
  none : (k : ℕ) (d : PartShare) → length l.key.parts.items ≤ k → k < l.place → part_told (get_or l.places k d) ≡ None;
}
