-- The trail of a session, as a text: who asked what and was answered what, and which firings were seen.
use Rattle.std.specs.Prelude.{◌≡◌, ℕ, ◌<◌, ◌^◌, ◌++◌, ◌⊎◌, List, [], ◌∷◌, codes, decimal, MatchBool}
use Rattle.std.specs.List.{flat_map, AllByRecursion}
use Rattle.dt_cred.specs.declared.account.Account.{Account}
use Rattle.dt_machine.specs.Registry.{Registry}
use Rattle.dt_cred.specs.declared.firing.Firing.{Firing}
use Rattle.dt_life.specs.Answer.{Answer}
use Rattle.dt_life.specs.Life.{Item, is_over}
use Rattle.dt_life.specs.Reply.{Replies}
use Rattle.dt_life.specs.Sees.{Sees}
use Rattle.dt_proto.specs.Alone.{Reached, own_line, firing_made, IsLifeOf}
use Rattle.dt_proto.specs.Line.{ask_in}
use Rattle.dt_proto.specs.Lines.{LineForm, short_line, long_line}
use Rattle.dt_proto.specs.Reply.{reply_text}
use Rattle.dt_proto.specs.Splits.{HasNoNewline, with_newline}

-- An item of a trail: a line with its reply, both without their newlines; a line that is told only as long, with its
-- reply; or a firing, by its processor and its place in that processor's script.
pub data WrittenItem : Type 0 where
  line_asked : (line reply : List ℕ) → WrittenItem
  long_asked : (reply : List ℕ) → WrittenItem
  fired_at : (cpu place : ℕ) → WrittenItem

abbrev pub reply_line : List ℕ → List ℕ
reply_line reply = with_newline (codes "reply " ++ reply)

-- the lines of an item
abbrev pub item_text : WrittenItem → List ℕ
item_text (line_asked line reply) = with_newline (codes "line " ++ line) ++ reply_line reply
item_text (long_asked reply) = with_newline (codes "long") ++ reply_line reply
item_text (fired_at cpu place) =
    with_newline (codes "fired " ++ (decimal cpu ++ (codes " " ++ decimal place)))

-- the text of a trail: the account's name, and its items, the oldest first
abbrev pub trail_text : List ℕ → List WrittenItem → List ℕ
trail_text name items = with_newline (codes "account " ++ name) ++ flat_map item_text items

-- An item can be written: a line and a reply have no newline, a number has 32 bits.
abbrev pub IsWritable : WrittenItem → Type 0
IsWritable (line_asked line reply) = HasNoNewline line × HasNoNewline reply
IsWritable (long_asked reply) = HasNoNewline reply
IsWritable (fired_at cpu place) = (cpu < 2 ^ 32) × (place < 2 ^ 32)

-- The text is the trail of a session of this name with these items, the oldest first.
pub record SpellsTrail (text name : List ℕ) (items : List WrittenItem) : Type 0 where
  pub spelled : text ≡ trail_text name items
  pub named : HasNoNewline name
  pub writable : AllByRecursion IsWritable items

-- The item of a line and its reply, whose text ends with a newline.
abbrev pub IsItemOf : LineForm → Answer → WrittenItem → Type 0
IsItemOf (short_line line) answer item =
    (reply : List ℕ) × (item ≡ line_asked line reply) × (with_newline reply ≡ reply_text answer)
IsItemOf long_line answer item =
    (reply : List ℕ) × (item ≡ long_asked reply) × (with_newline reply ≡ reply_text answer)

module _ (account : Account) (registry : Registry) where
  -- What a line adds to the trail: nothing over the quota, else its item.
  abbrev pub IsLineTold : List Item → LineForm → List WrittenItem → Type 0
  IsLineTold life line items = MatchBool (is_over life) (items ≡ [])
      ((answer : Answer) × (item : WrittenItem) × Replies account registry life (ask_in line) answer
      × IsItemOf line answer item × (items ≡ item ∷ []))

  -- What a firing adds to the trail: its item where it is seen, else nothing.
  abbrev pub IsToldFiring : List Item → Firing → List WrittenItem → Type 0
  IsToldFiring life firing items =
      (Sees account registry life firing × (items ≡ fired_at firing.cpu firing.place ∷ []))
      ⊎ ((Sees account registry life firing → ⊥) × (items ≡ []))

  -- The trail of a view: its lines within the quota, with their replies, and the firings that it sees, the oldest
  -- first.
  abbrev pub IsTrailOf : List Reached → List WrittenItem → Type 0
  IsTrailOf [] items = items ≡ []
  IsTrailOf (own_line line ∷ view) items = (life : List Item) × (earlier : List WrittenItem) × (new : List WrittenItem)
      × IsLifeOf account registry view life × IsTrailOf view earlier × IsLineTold life line new
      × (items ≡ earlier ++ new)
  IsTrailOf (firing_made firing ∷ view) items = (life : List Item) × (earlier : List WrittenItem) × (new : List WrittenItem)
      × IsLifeOf account registry view life × IsTrailOf view earlier × IsToldFiring life firing new
      × (items ≡ earlier ++ new)

-- the lines of replies that an item has
abbrev pub replies_by : WrittenItem → List (List ℕ)
replies_by (line_asked line reply) = with_newline reply ∷ []
replies_by (long_asked reply) = with_newline reply ∷ []
replies_by (fired_at cpu place) = []

-- the replies of items, each with its newline
abbrev pub replies_of : List WrittenItem → List (List ℕ)
replies_of items = flat_map replies_by items
