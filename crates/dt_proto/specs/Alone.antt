-- What a consumer that traces alone is answered.
use Rattle.std.specs.Prelude.{◌≡◌, ◌⊎◌, List, [], ◌∷◌, ◌++◌, ℕ}
use Rattle.dt_cred.specs.declared.account.Account.{Account}
use Rattle.dt_machine.specs.Registry.{Registry}
use Rattle.dt_cred.specs.declared.firing.Firing.{Firing}
use Rattle.dt_life.specs.Answer.{Answer}
use Rattle.dt_life.specs.Acceptance.{after_line}
use Rattle.dt_life.specs.Life.{Item, fired}
use Rattle.dt_life.specs.Reply.{Replies}
use Rattle.dt_life.specs.Sees.{Sees}
use Rattle.dt_proto.specs.Line.{ask_in}
use Rattle.dt_proto.specs.Lines.{LineForm}
use Rattle.dt_proto.specs.Reply.{reply_text}

-- What reaches a consumer: an own line, or a firing.
pub data Reached : Type 0 where
  own_line : LineForm → Reached
  firing_made : Firing → Reached

-- A view is what reached a consumer, the newest first.
module _ (account : Account) (registry : Registry) where
  -- after a firing: a seen one is the newest of the life, an unseen one is no part of it
  abbrev pub IsAfterFiring : List Item → Firing → List Item → Type 0
  IsAfterFiring before firing life =
      (Sees account registry before firing × (life ≡ fired firing ∷ before))
      ⊎ ((Sees account registry before firing → ⊥) × (life ≡ before))

  -- The life of a view: without the firings that the consumer didn't see, and the lines over its quota.
  abbrev pub IsLifeOf : List Reached → List Item → Type 0
  IsLifeOf [] life = life ≡ []
  IsLifeOf (own_line line ∷ view) life =
      (before : List Item) × IsLifeOf view before × (life ≡ after_line before (ask_in line))
  IsLifeOf (firing_made firing ∷ view) life = (before : List Item) × IsLifeOf view before
      × IsAfterFiring before firing life

  -- the reply to a line after a view
  abbrev pub IsReplyTo : List Reached → LineForm → Answer → Type 0
  IsReplyTo view line answer =
      (life : List Item) × IsLifeOf view life × Replies account registry life (ask_in line) answer

  -- The replies to the lines of a view, the oldest first: each is the one after what reached the consumer before.
  abbrev pub Alone : List Reached → List Answer → Type 0
  Alone [] answers = answers ≡ []
  Alone (own_line line ∷ view) answers =
      (earlier : List Answer) × (answer : Answer) × Alone view earlier × IsReplyTo view line answer
      × (answers ≡ earlier ++ answer ∷ [])
  Alone (firing_made firing ∷ view) answers = Alone view answers

-- The text is that of the reply to a line, after what reached a session before.
abbrev pub IsText : Account → Registry → List Reached → LineForm → List ℕ → Type 0
IsText account registry view line text =
    (answer : Answer) × IsReplyTo account registry view line answer × (text ≡ reply_text answer)
