-- What the proof of `ShortText::new` is told at its goals.
use Rattle.std.proofs.Common.{length, ap, arith}
use Rattle.dt_names.proofs.Padding.{padded_by}
use Rattle.dt_names.proofs.short_text.ShortText.new.Goals as goal

pub invariant_of-result : goal.invariant_of-result
invariant_of-result c = padded_by _ _ (ap length c.copy_from_slice.ensures.after) (omega arith)
