-- What holds of the fields of an owner and a note.
use Rattle.std.specs.Prelude.{◌≡◌, ◌<◌, ◌≤◌, ◌+◌, ◌*◌, ℕ, List, [], length, Some, None, false}
use denote.RawPtr.{Ptr, null_ptr, InBlock}
use Rattle.atomic_blocks.specs.Cells.{me, Row, row, cell_in, AllHome}
use Rattle.atomic_blocks.specs.declared.rows.shared.Seat.{Seat}
use Rattle.std.specs.declared.alloc.Global.{Global}
use Rattle.dt_trail.specs.declared.door.Door.{Door}
use Rattle.dt_trail.specs.declared.rule.TrailView.{TrailView}
use Rattle.dt_trail.specs.declared.inner.Inner.{Inner}
use Rattle.dt_trail.specs.Rule.{NoSlot, note, appender, owner, claim, extent_of, Turn}
use Rattle.dt_trail.specs.declared.law.Named.{Named}
use Rattle.dt_trail.specs.Limits.{block_bound, cells_bound, widenings}
use Rattle.dt_trail.specs.Items.{TrailItem}
use Rattle.dt_trail.specs.Known.{Known, Noted, Heard, named_row, known_row, noted}

abbrev pub RowSeat : Type 0 → Type 0 → Type 0
RowSeat K A = Seat NoSlot (TrailView K) A

-- the door leads to a block
pub record IsDoor (d : Door) : Type 0 where
  pub some : 0 < d.len
  pub small : d.len < block_bound
  pub near : d.block < widenings + 1
  pub wide : d.from + d.len < cells_bound
  pub placed : InBlock d.link.ptr

-- the next cell lies behind the door, or at its end
pub record IsDoorAt (d : Door) (count : ℕ) : Type 0 where
  pub door : IsDoor d
  pub low : d.from ≤ count
  pub high : count ≤ d.from + d.len

module _ {K L : Type 0} where
  abbrev pub OfRow : Inner K L → Seat NoSlot (TrailView K) Global → Type 0
  OfRow i s = (s.rows ≡ i.rows.id) × (s.heap ≡ i.rows.heap)

module _ {K A : Type 0} where
  abbrev pub SameSeat : RowSeat K A → RowSeat K A → Type 0
  SameSeat old new = (new.rows ≡ old.rows) × (new.heap ≡ old.heap) × (new.id ≡ old.id)

  -- a note's seat, one that has the owner's right too, one of what was told, and the owner's
  abbrev pub Note : RowSeat K A → Type 0
  Note s = s.me ≡ me (note s.me.view.account s.me.view.note s.me.view.knows s.me.view.door) None None

  abbrev pub Appender : RowSeat K A → Type 0
  Appender s = s.me ≡ me (appender s.me.view.account s.me.view.note s.me.view.had s.me.view.knows s.me.view.door s.me.view.extent) None None

  abbrev pub Claim : RowSeat K A → Type 0
  Claim s = s.me ≡ me (claim s.me.view.account s.me.view.knows s.me.view.door) None None

  abbrev pub Owner : RowSeat K A → Type 0
  Owner s = s.me ≡ me (owner s.me.view.account s.me.view.knows s.me.view.door s.me.view.extent) None None

module _ {K L : Type 0} where
  abbrev pub row_of : Inner K L → Named K
  row_of i = named_row i.rows.id i.about.account

  -- the owner's right, when the row was widened so often
  abbrev pub right : Inner K L → List TrailItem → Door → ℕ → ℕ → Turn K
  right i knows d widened cells = me (owner (Some i.about.account) knows d (extent_of (widened + 1) cells false null_ptr)) None None

  abbrev pub owner_known : Inner K L → RowSeat K Global → ℕ → ℕ → Known K
  owner_known i s cells widened = known_row (row_of i) s.me.view.knows cells widened

  pub record IsOwner (i : Inner K L) (s : RowSeat K Global) (d : Door) (count widened cells : ℕ) : Type 0 where
    pub rows : s.rows ≡ i.rows.id
    pub heap : s.heap ≡ i.rows.heap
    pub mine : s.me ≡ right i s.me.view.knows d widened cells
    pub at : IsDoorAt d count
    pub counted : count ≡ length s.me.view.knows
    pub full : count ≤ cells
    pub few : widened ≤ widenings
    pub wide : cells ≤ (widened + 1) * block_bound

  abbrev pub note_noted : Inner K L → RowSeat K Global → Noted K
  note_noted i s = noted (row_of i) s.me.view.note s.me.view.knows

  pub record IsNote (i : Inner K L) (s : RowSeat K Global) (d : Door) (count : ℕ) : Type 0 where
    pub rows : s.rows ≡ i.rows.id
    pub heap : s.heap ≡ i.rows.heap
    pub mine : s.me ≡ me (note (Some i.about.account) s.me.view.note s.me.view.knows d) None None
    pub at : IsDoorAt d count
    pub counted : count ≡ length s.me.view.knows

-- what was told
abbrev pub heard : {K A : Type 0} → RowSeat K A → Heard
heard s = record { row = s.rows; knows = s.me.view.knows }

pub record IsHeard {K : Type 0} (s : RowSeat K Global) (d : Door) (count : ℕ) : Type 0 where
  pub mine : s.me ≡ me (claim s.me.view.account s.me.view.knows d) None None
  pub at : IsDoorAt d count
  pub counted : count ≡ length s.me.view.knows

-- at the end, the blocks from the k-th on are still to be freed
pub record EndingBlocks (root : Ptr) (k : ℕ) (mem : List (Row NoSlot)) : Type 0 where
  pub at : (row mem 0).at ≡ root
  pub long : length (row mem 0).cells ≡ widenings + 2
  pub home : AllHome (row mem 0).cells
  pub gone : (j : ℕ) → 0 < j → j ≤ k → (row mem j).cells ≡ []
  pub beyond : (j : ℕ) → widenings + 1 < j → (row mem j).cells ≡ []
  pub each : (j : ℕ) → k ≤ j → j < widenings + 1 → length (row mem (j + 1)).cells ≡ (cell_in (row mem 0).cells j).word
  pub homes : (j : ℕ) → k ≤ j → j < widenings + 1 → AllHome (row mem (j + 1)).cells
  pub places : (j : ℕ) → k ≤ j → j < widenings + 1 → 0 < (cell_in (row mem 0).cells j).word → InBlock (cell_in (row mem 0).cells j).link × ((row mem (j + 1)).at ≡ (cell_in (row mem 0).cells j).link)
