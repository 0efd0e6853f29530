-- The rule of a row of blocks, what seats know of it, and what each step tells.
use Rattle.std.specs.Prelude.{◌≡◌, ◌≢◌, ℕ, ◌+◌, ◌<◌, ◌≤◌, ◌==◌, List, [], ◌∷◌, ◌++◌, length, Bool, true, false, cond, nat_lt, MatchBool, Option, Some, None}
use mathlib.Core.Option.{some}
use lib.ListN.{get_elem?}
use denote.RawPtr.{Ptr, null_ptr, InBlock}
use Rattle.atomic_blocks.specs.Cells.{Cell, Row, State, Step, Me, me, cell_in}
use Rattle.atomic_blocks.specs.declared.rows.loose.Link.{Link}
use Rattle.dt_trail.specs.Limits.{block_bound, cells_bound, widenings}
use Rattle.dt_trail.specs.declared.door.Door.{Door}
use Rattle.dt_trail.specs.declared.rule.Extent.{Extent}
use Rattle.dt_trail.specs.declared.rule.TrailView.{TrailView}
use Rattle.dt_trail.specs.Items.{TrailItem, whose, code, IsReal, AllReal, own, code_at, StartsWith, longer, IsWordAt}
use Rattle.dt_trail.specs.Blocks.{flat, Laid, BlockLiesAt}

abbrev pub NoSlot : Type 0
NoSlot = Unit {0}

abbrev pub link_at : Ptr → Link NoSlot
link_at p = record { ptr = p; marker = record {} }

abbrev pub door_at : ℕ → ℕ → ℕ → Ptr → Door
door_at b from len p = record { block = b; from = from; len = len; link = link_at p }

abbrev pub no_door : Door
no_door = door_at 0 0 0 null_ptr

abbrev pub extent_of : ℕ → ℕ → Bool → Ptr → Extent
extent_of blocks cells planned p = record { blocks = blocks; cells = cells; planned = planned; plan = link_at p }

abbrev pub no_extent : Extent
no_extent = extent_of 0 0 false null_ptr

abbrev pub first_door : ℕ → Ptr → Door
first_door size p = door_at 0 0 size p

abbrev pub first_extent : ℕ → Extent
first_extent size = extent_of 1 size false null_ptr

-- what the rule speaks of: the root and the blocks, the items, the seat of each note and of the owner, and how many notes there are
pub record RowWorld (K : Type 0) : Type 0 where
  pub account : K
  pub base : Row NoSlot
  pub blocks : List (Row NoSlot)
  pub items : List TrailItem
  pub place : ℕ → ℕ
  pub keeper : ℕ
  pub made : ℕ

-- cells are set from the left, and a set cell has its item
pub record ShowsRow (lawful : List TrailItem → Type 0) (items : List TrailItem) (cells : List (Cell NoSlot)) : Type 0 where
  pub room : length items ≤ length cells
  pub words : (k : ℕ) → (cell_in cells k).word ≡ code_at items k
  pub legal : lawful items
  pub real : AllReal items

abbrev pub Turn : Type 0 → Type 0
Turn K = Me NoSlot (TrailView K)

module _ {K : Type 0} where
  abbrev pub viewed : Option K → Bool → Bool → Bool → ℕ → List TrailItem → List TrailItem → Door → Extent → TrailView K
  viewed a live owns makes n knows had d t = record { account = a; live = live; owns = owns; makes = makes; note = n; knows = knows; had = had; door = d; extent = t }

  -- a note's view
  abbrev pub note : Option K → ℕ → List TrailItem → Door → TrailView K
  note a n knows d = viewed a true false false n knows [] d no_extent

  -- the view of a note that has the owner's right
  abbrev pub appender : Option K → ℕ → List TrailItem → List TrailItem → Door → Extent → TrailView K
  appender a n had knows d t = viewed a true true false n knows had d t

  abbrev pub owner : Option K → List TrailItem → Door → Extent → TrailView K
  owner a knows d t = viewed a false true false 0 knows [] d t

  -- the owner of an empty row, of which this many notes were made
  abbrev pub maker : Option K → ℕ → Door → Extent → TrailView K
  maker a n d t = viewed a false true true n [] [] d t

  abbrev pub nobody : TrailView K
  nobody = viewed None false false false 0 [] [] no_door no_extent

  abbrev pub maker_after : TrailView K → TrailView K
  maker_after v = maker v.account (v.note + 1) v.door v.extent

  abbrev pub made : TrailView K → TrailView K
  made v = note v.account v.note [] v.door

  abbrev pub with_right : TrailView K → TrailView K → TrailView K
  with_right v w = viewed v.account v.live w.owns false v.note w.knows v.knows w.door w.extent

  abbrev pub without_right : TrailView K → TrailView K
  without_right v = note v.account v.note v.knows v.door

  abbrev pub right_of : TrailView K → TrailView K
  right_of v = owner v.account v.knows v.door v.extent

  abbrev pub row_ended : TrailView K → TrailView K
  row_ended v = nobody

  -- the view, with another door
  abbrev pub through : TrailView K → Door → TrailView K
  through v d = viewed v.account v.live v.owns v.makes v.note v.knows v.had d v.extent

  -- each view is a beginning of the row; a note's has all of the row that is its own; one seat at most is the owner's, and knows the whole row
  pub record FitsRow (w : RowWorld K) (by : ℕ) (v : TrailView K) : Type 0 where
    pub account : (x : K) → v.account ≡ Some x → x ≡ w.account
    pub begins : StartsWith w.items v.knows
    pub live : v.live ≡ true → (w.place v.note ≡ by) × (v.note < w.made) × (own v.note w.items ≡ own v.note v.knows)
    pub owns : v.owns ≡ true → (w.keeper ≡ by) × (w.items ≡ v.knows)
    pub makes : v.makes ≡ true → (v.owns ≡ true) × (w.made ≡ v.note)
    pub had : StartsWith w.items v.had
    pub had_own : v.owns ≡ true → v.live ≡ true → own v.note w.items ≡ own v.note v.had
    pub stands : 0 < v.door.len → BlockLiesAt w.blocks v.door
    pub extent : v.owns ≡ true → (v.extent.blocks ≡ length w.blocks) × (v.extent.cells ≡ length (flat w.blocks))
    pub plan : v.owns ≡ true → v.extent.planned ≡ true → (cell_in w.base.cells v.extent.blocks).link ≡ v.extent.plan.ptr

  abbrev pub FitsEach : RowWorld K → List (TrailView K) → Type 0
  FitsEach w views = (by : ℕ) (v : TrailView K) → get_elem? views by ≡ some v → FitsRow w by v

  pub record Kept (lawful : K → List TrailItem → Type 0) (root : Ptr) (acct : K) (s : State NoSlot (TrailView K)) : Type 0 where
    pub world : RowWorld K
    pub keyed : world.account ≡ acct
    pub is : s.rows ≡ world.base ∷ world.blocks
    pub laid : Laid root world.base world.blocks
    pub shows : ShowsRow (lawful acct) world.items (flat world.blocks)
    pub each : FitsEach world s.views

  -- what the view had begins what it knows, which has no more of its own
  abbrev pub HadAll : TrailView K → Type 0
  HadAll v = StartsWith v.knows v.had × (own v.note v.knows ≡ own v.note v.had)

  abbrev pub reviewed : Turn K → TrailView K → Turn K
  reviewed m v = me v m.hand m.spare

  -- the view, once it knows one item more
  abbrev pub pushed : TrailView K → TrailItem → TrailView K
  pushed v item = viewed v.account v.live v.owns v.makes v.note (v.knows ++ item ∷ []) v.had v.door v.extent

  -- the same, of a note that has the owner's right
  abbrev pub appended : TrailView K → TrailItem → TrailView K
  appended v item = viewed v.account v.live v.owns v.makes v.note (v.knows ++ item ∷ []) (v.knows ++ item ∷ []) v.door v.extent

  -- the cell of the first item that is not known was set to it
  abbrev pub IsSet : TrailItem → Step → Turn K → ℕ → Turn K → Type 0
  IsSet x st m found n = (n ≡ reviewed m (appended m.view x)) × HadAll m.view

  -- a note that has the owner's right finds that it had all of the row that is its own
  abbrev pub HasCompared : Step → Turn K → ℕ → Turn K → Type 0
  HasCompared st m found n = (n ≡ m) × HadAll m.view

  -- the word stands for the next item, which is not the note's own
  pub record FindsItem (m : Turn K) (found : ℕ) (n : Turn K) : Type 0 where
    pub item : TrailItem
    pub shown : found ≡ code item
    pub real : IsReal item
    pub other : m.view.live ≡ true → whose item ≢ m.view.note
    pub next : n ≡ reviewed m (pushed m.view item)

  -- the account may have a row that begins so
  abbrev pub IsBegun : (K → List TrailItem → Type 0) → Option K → List TrailItem → Type 0
  IsBegun lawful a knows = (x : K) → a ≡ Some x → (rest : List TrailItem) × lawful x (knows ++ rest)

  -- an empty cell was found, or the next item, which is not the note's own
  abbrev pub TurnReads : (K → List TrailItem → Type 0) → Step → Turn K → ℕ → Turn K → Type 0
  TurnReads lawful st m found n =
      IsBegun lawful m.view.account n.view.knows
      × MatchBool (found == 0) (n ≡ m) (FindsItem m found n)

  -- the seat's door leads to the last block: nothing that it knows lies behind
  abbrev pub IsLast : Turn K → Turn K → Type 0
  IsLast m n = (n ≡ m) × (m.view.owns ≡ true → m.view.extent.cells ≡ m.view.door.from + m.view.door.len) × (length m.view.knows ≤ m.view.door.from + m.view.door.len)

  -- there is no further block yet, or it has so many cells, and lies somewhere
  abbrev pub IsTurned : (K → List TrailItem → Type 0) → Step → Turn K → ℕ → Turn K → Type 0
  IsTurned lawful st m found n =
      IsBegun lawful m.view.account n.view.knows
      × MatchBool (found == 0) (IsLast m n)
      ((p : Ptr) × InBlock p × (found < block_bound) × (m.view.door.from + m.view.door.len + found < cells_bound) × (st.index < widenings + 1) × (n ≡ reviewed m (through m.view (door_at st.index (m.view.door.from + m.view.door.len) found p))))

  abbrev pub IsSeen : ℕ → ℕ → Turn K → Ptr → Turn K → Type 0
  IsSeen k i m q n = (n ≡ m) × (q ≡ m.view.door.link.ptr)

  -- the first block has so many cells, and lies somewhere: the seat's door leads to it
  abbrev pub IsBack : Step → Turn K → ℕ → Turn K → Type 0
  IsBack st m found n = (p : Ptr) × InBlock p × (0 < found) × (found < block_bound) × (n ≡ reviewed m (through m.view (door_at 0 0 found p)))

  -- the word stands for an item that the seat knows
  abbrev pub IsFoundAgain : Step → Turn K → ℕ → Turn K → Type 0
  IsFoundAgain st m found n = (n ≡ m) × IsWordAt m.view.knows (m.view.door.from + st.index) found

  -- whatever the word is, the seat stays as it is
  abbrev pub IsPeeked : Step → Turn K → ℕ → Turn K → Type 0
  IsPeeked st m found n = n ≡ m

  abbrev pub planned_at : TrailView K → Ptr → TrailView K
  planned_at v p = viewed v.account v.live v.owns v.makes v.note v.knows v.had v.door (extent_of v.extent.blocks v.extent.cells true p)

  abbrev pub IsPlanned : ℕ → ℕ → Turn K → Ptr → Turn K → Type 0
  IsPlanned k i m q n = n ≡ reviewed m (planned_at m.view q)

  abbrev pub wider : TrailView K → ℕ → TrailView K
  wider v size = viewed v.account v.live v.owns v.makes v.note v.knows v.had v.door (extent_of (v.extent.blocks + 1) (v.extent.cells + size) false null_ptr)

  abbrev pub IsLaid : Step → Turn K → ℕ → Turn K → Type 0
  IsLaid st m found n = (n ≡ me (wider m.view st.first) m.hand None) × (m.view.live ≡ true → HadAll m.view)

  -- a seat that knows a beginning, and no more
  abbrev pub claim : Option K → List TrailItem → Door → TrailView K
  claim a knows d = viewed a false false false 0 knows [] d no_extent

  abbrev pub claim_of : TrailView K → TrailView K
  claim_of v = claim v.account v.knows v.door

  abbrev pub is_longer : TrailView K → TrailView K → Bool
  is_longer v w = nat_lt (length v.knows) (length w.knows)

  -- the view, with what was told beside what it knows, and with the door of the longer of the two
  abbrev pub informed : TrailView K → TrailView K → TrailView K
  informed v w = viewed v.account v.live v.owns v.makes v.note v.knows w.knows (cond (is_longer v w) w.door v.door) v.extent

  -- the view, once it knows the longer of the two
  abbrev pub learnt : TrailView K → TrailView K
  learnt v = viewed v.account v.live v.owns v.makes v.note (longer v.knows v.had) [] v.door v.extent

  -- the longer of the two begins with both, and has no more items of the note's own
  abbrev pub HasLearnt : (K → List TrailItem → Type 0) → Step → Turn K → ℕ → Turn K → Type 0
  HasLearnt lawful st m found n =
      IsBegun lawful m.view.account n.view.knows
      × (n ≡ reviewed m (learnt m.view))
      × StartsWith n.view.knows m.view.knows
      × StartsWith n.view.knows m.view.had
      × (m.view.live ≡ true → own m.view.note n.view.knows ≡ own m.view.note m.view.knows)
