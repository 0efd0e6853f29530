-- Trails that go on.
use Rattle.std.proofs.Common.{◌≡◌, ◌≤◌, Bool, true, false, List, [], ◌∷◌, ◌++◌, refl, sym, ◌∙◌, subst, arith, if◌then◌else◌}
use Rattle.dt_cred.specs.declared.account.Account.{Account}
use Rattle.dt_cred.specs.declared.firing.Firing.{Firing}
use Rattle.dt_legal.specs.Rows.{life_of_row}
use Rattle.dt_life.specs.Life.{is_over}
use Rattle.dt_machine.specs.Registry.{Contents}
use Rattle.dt_seat.specs.Seats.{TrailGoesOn}
use Rattle.dt_seat.specs.Trailed.{row_after, row_offered, with_items}
use Rattle.dt_legal.specs.laws.Starts.{starts_more}
use Rattle.dt_trail.specs.Items.{StartsWith, TrailItem, fired}
use Rattle.dt_trail.specs.Known.{Known}
use Rattle.dt_trail.specs.laws.Starts.{starts_self, starts_trans}

pub goes_on_self : (trail : Known Account) → TrailGoesOn trail trail
goes_on_self trail = record { row = refl; longer = starts_self trail.knows; cells = omega arith }

pub goes_on_trans : (old mid new : Known Account) → TrailGoesOn old mid → TrailGoesOn mid new → TrailGoesOn old new
goes_on_trans old mid new a b = record {
  row = b.row ∙ a.row;
  longer = starts_trans new.knows mid.knows old.knows b.longer a.longer;
  cells = omega (arith, a.cells, b.cells);
}

-- a trail goes on with a firing that was offered
pub goes_on_offered : (trail : Known Account) (firing : Firing) (is_seen : Bool)
    → TrailGoesOn trail (with_items trail (row_offered trail.knows firing is_seen))
goes_on_offered trail firing true = record { row = refl; longer = starts_more trail.knows (fired firing.cpu firing.place); cells = omega arith }
goes_on_offered trail firing false = record { row = refl; longer = starts_self trail.knows; cells = omega arith }

-- a trail that was widened, and what is known of it after a line
pub goes_on_wider : (old new : Known Account) → new.row ≡ old.row → new.knows ≡ old.knows → old.cells ≤ new.cells → TrailGoesOn old new
goes_on_wider old new row knows cells = record {
  row = row;
  longer = subst (λ (items : List TrailItem). StartsWith items old.knows) (sym knows) (starts_self old.knows);
  cells = cells;
}

module _ (account : Account) (contents : Contents) where
  pub starts_after : (row : List TrailItem) (item : TrailItem) → StartsWith (row_after account contents row item) row
  starts_after row item = by_quota (is_over (life_of_row account contents row))
    where
      by_quota : (b : Bool) → StartsWith (if b then row else (row ++ item ∷ [])) row
      by_quota true = starts_self row
      by_quota false = starts_more row item

  pub goes_on_asked : (old mid : Known Account) (item : TrailItem) → TrailGoesOn old mid
      → TrailGoesOn old (with_items mid (row_after account contents mid.knows item))
  goes_on_asked old mid item h = record {
    row = h.row;
    longer = starts_trans (row_after account contents mid.knows item) mid.knows old.knows (starts_after mid.knows item) h.longer;
    cells = h.cells;
  }
