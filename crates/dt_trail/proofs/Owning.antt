-- What an owner has, after a step.
use Rattle.std.proofs.Common.{◌≡◌, ℕ, ◌+◌, ◌*◌, ◌≤◌, List, length, sym, ap, ◌∙◌}
use Rattle.std.specs.declared.alloc.Global.{Global}
use Rattle.dt_trail.specs.declared.door.Door.{Door}
use Rattle.dt_trail.specs.Items.{TrailItem}
use Rattle.dt_trail.specs.Limits.{block_bound, widenings}
use Rattle.dt_trail.specs.declared.inner.Inner.{Inner}
use Rattle.dt_trail.specs.Rule.{Turn}
use Rattle.dt_trail.specs.Insides.{RowSeat, IsDoorAt, right, IsOwner}

module _ {K L : Type 0} (i : Inner K L) where
  pub owning : (r : RowSeat K Global) (d : Door) (ks : List TrailItem) (count widened cells : ℕ) → r.rows ≡ i.rows.id → r.heap ≡ i.rows.heap → r.me ≡ right i ks d widened cells → IsDoorAt d count → count ≡ length ks → count ≤ cells → widened ≤ widenings → cells ≤ (widened + 1) * block_bound
      → IsOwner i r d count widened cells
  owning r d ks count widened cells a b e at counted full few wide =
      let same : r.me.view.knows ≡ ks = ap (λ (m : Turn K). m.view.knows) e in
      record {
        rows = a;
        heap = b;
        mine = e ∙ ap (λ (l : List TrailItem). right i l d widened cells) (sym same);
        at = at;
        counted = counted ∙ ap length (sym same);
        full = full;
        few = few;
        wide = wide;
      }
