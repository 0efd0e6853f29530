-- Blocks one behind the other, as one row of cells.
use Rattle.std.specs.Prelude.{◌≡◌, ◌≢◌, ℕ, zero, suc, ◌+◌, ◌<◌, ◌≤◌, List, [], ◌∷◌, ◌++◌, length}
use denote.RawPtr.{Ptr, InBlock}
use Rattle.atomic_blocks.specs.Cells.{Cell, Row, row, cell_in}
use Rattle.dt_trail.specs.Limits.{block_bound, cells_bound, widenings}
use Rattle.dt_trail.specs.declared.door.Door.{Door}

module _ {S : Type 0} where
  -- the cells of all blocks
  abbrev pub flat : List (Row S) → List (Cell S)
  flat [] = []
  flat (x ∷ xs) = x.cells ++ flat xs

  -- how many cells lie before the block
  abbrev pub before : List (Row S) → ℕ → ℕ
  before [] k = 0
  before (x ∷ xs) zero = 0
  before (x ∷ xs) (suc k) = length x.cells + before xs k

  -- the root has the sizes and the places of the blocks, and ends with a 0
  pub record Laid (root : Ptr) (base : Row S) (blocks : List (Row S)) : Type 0 where
    pub at : base.at ≡ root
    pub long : length base.cells ≡ widenings + 2
    pub few : length blocks ≤ widenings + 1
    pub some : 0 < length blocks
    pub wide : length (flat blocks) < cells_bound
    pub sizes : (j : ℕ) → j < widenings + 2 → (cell_in base.cells j).word ≡ length (row blocks j).cells
    pub places : (j : ℕ) → j < length blocks → ((cell_in base.cells j).link ≡ (row blocks j).at) × InBlock (row blocks j).at × (0 < length (row blocks j).cells) × (length (row blocks j).cells < block_bound)

  -- the block lies there
  pub record BlockLiesAt (blocks : List (Row S)) (d : Door) : Type 0 where
    pub near : d.block < length blocks
    pub from : d.from ≡ before blocks d.block
    pub len : d.len ≡ length (row blocks d.block).cells
    pub at : (row blocks d.block).at ≡ d.link.ptr

  -- all cells are empty
  abbrev pub Blank : List (Cell S) → Type 0
  Blank cs = (k : ℕ) → (cell_in cs k).word ≡ 0

  -- the first n cells of the root at the start
  abbrev pub Rooted : Ptr → ℕ → ℕ → List (Cell S) → Type 0
  Rooted first size n cs = (length cs ≡ n) × ((j : ℕ) → j < n → ((cell_in cs j).link ≡ first) × (j ≡ 0 → (cell_in cs j).word ≡ size) × (j ≢ 0 → (cell_in cs j).word ≡ 0))
