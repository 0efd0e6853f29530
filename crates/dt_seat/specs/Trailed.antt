-- A consumer with its session's trail.
use Rattle.std.specs.Prelude.{◌≡◌, ◌≤◌, ◌+◌, ◌*◌, ◌++◌, ◌∷◌, ℕ, Bool, List, [], if◌then◌else◌}
use Rattle.dt_cred.specs.declared.account.Account.{Account}
use Rattle.dt_cred.specs.declared.firing.Firing.{Firing}
use Rattle.dt_consumer.specs.Draft.{CanApply, IsDraftOf}
use Rattle.dt_consumer.specs.StandsFor.{StandsFor}
use Rattle.dt_consumer.specs.declared.consumer.Consumer.{Consumer}
use Rattle.dt_consumer.specs.declared.draft.Draft.{Draft}
use Rattle.dt_legal.specs.Rows.{IsLegalRow, Suffice, line_form_of, life_of_row, set_up_of}
use Rattle.dt_life.specs.Answer.{Answer}
use Rattle.dt_life.specs.Life.{is_over}
use Rattle.dt_life.specs.Limits.{lines_max}
use Rattle.dt_life.specs.Reply.{Replies}
use Rattle.dt_machine.specs.Registry.{Contents}
use Rattle.dt_proto.specs.Line.{ask_in}
use Rattle.dt_proto.specs.Lines.{LineForm}
use Rattle.dt_proto.specs.Reply.{reply_text}
use Rattle.dt_proto.specs.declared.asked.Asked.{Asked}
use Rattle.dt_proto.specs.declared.asked.Asked.TheVariants as asked
use Rattle.dt_trail.specs.Items.{TrailItem, line, long_line, fired, whose}
use Rattle.dt_trail.specs.Known.{Known, known_row}
use Rattle.dt_trail.specs.Limits.{opening_cells, block_cells, longest}

-- the item of a line
abbrev pub item_of_line : Asked → TrailItem
item_of_line (asked.Line bytes) = line bytes.items
item_of_line asked.Long = long_line

-- The trail has room for the quota of lines and for the history.
abbrev pub IsWideEnough : Contents → Account → Known Account → Type 0
IsWideEnough contents account trail = lines_max + (set_up_of account contents trail.knows).options.histsize ≤ trail.cells

-- How wide a trail is: as it was opened, and then widened block by block.
pub record IsWide (trail : Known Account) : Type 0 where
  pub blocks : trail.cells ≡ opening_cells + trail.widened * block_cells
  pub few : trail.cells ≤ longest

-- The consumer stands for the trail, which is legal, and whose cells suffice.
pub record IsTrailed (contents : Contents) (account : Account) (trail : Known Account) (consumer : Consumer) : Type 0 where
  pub whose_is : trail.row.account ≡ account
  pub stands : StandsFor account contents.registry consumer (life_of_row account contents trail.knows)
  pub legal : IsLegalRow account contents trail.knows
  pub wide : IsWide trail
  pub suffice : Suffice trail.cells (set_up_of account contents trail.knows)

-- The text is the reply that is due to a line after the items of a row.
abbrev pub IsDue : Account → Contents → List TrailItem → LineForm → List ℕ → Type 0
IsDue account contents row form text =
    (answer : Answer) × Replies account contents.registry (life_of_row account contents row) (ask_in form) answer
    × (text ≡ reply_text answer)

-- All is made for a line that is asked after these items: its draft, its item and the text of its reply.
pub record IsPrepared (contents : Contents) (account : Account) (knows : List TrailItem) (consumer : Consumer) (draft : Draft)
    (item : TrailItem) (text : List ℕ) : Type 0 where
  pub mine : whose item ≡ 0
  pub drafted : IsDraftOf account contents.registry (life_of_row account contents knows) (ask_in (line_form_of item)) draft
  pub fits : CanApply consumer draft
  pub due : IsDue account contents knows (line_form_of item) text

-- a row after a line: one over the quota is no part of it
abbrev pub row_after : Account → Contents → List TrailItem → TrailItem → List TrailItem
row_after account contents row item = if is_over (life_of_row account contents row) then row else (row ++ item ∷ [])

-- the trail with these items
abbrev pub with_items : Known Account → List TrailItem → Known Account
with_items trail knows = known_row trail.row knows trail.cells trail.widened

-- a row after a firing was offered: a seen one is its last item
abbrev pub row_offered : List TrailItem → Firing → Bool → List TrailItem
row_offered row firing is_seen = if is_seen then (row ++ fired firing.cpu firing.place ∷ []) else row
