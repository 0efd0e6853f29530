-- What a session's lines are answered, as a text.
use Rattle.std.specs.Prelude.{◌≡◌, ℕ, ◌⊎◌, Bool, true, false, List, [], ◌∷◌, ◌++◌, filter, length, map, take}
use Rattle.dt_cred.specs.declared.account.Account.{Account}
use Rattle.dt_legal.specs.Rows.{IsLegalRow, life_of_row, line_form_of, told_as}
use Rattle.dt_life.specs.Acceptance.{IsAcceptedClose, is_close}
use Rattle.dt_life.specs.Answer.{Answer, refused}
use Rattle.dt_life.specs.Life.{is_over}
use Rattle.dt_life.specs.declared.refusal.Refusal.TheVariants as refusals
use Rattle.dt_machine.specs.Registry.{Contents}
use Rattle.dt_proto.specs.Alone.{Alone}
use Rattle.dt_proto.specs.Line.{ask_in}
use Rattle.dt_proto.specs.Lines.{LineForm}
use Rattle.dt_proto.specs.Reply.{reply_text}
use Rattle.dt_proto.specs.Told.{view_by}
use Rattle.dt_server.specs.declared.ended.Ended.{Ended}
use Rattle.dt_server.specs.declared.ended.Ended.TheVariants as ended
use Rattle.dt_trail.specs.Items.{TrailItem, own, whose}

-- what is written where there was no memory for a line
abbrev pub memory_text : List ℕ
memory_text = reply_text (refused refusals.Memory)

-- what is written to a line that is over the quota
abbrev pub quota_text : List ℕ
quota_text = reply_text (refused refusals.Quota)

-- the session's own lines among the items of its trail, in order
abbrev pub lines_in : List TrailItem → List LineForm
lines_in items = map line_form_of (own 0 items)

-- of the lines, those that were taken
abbrev pub taken_lines : List Bool → List LineForm → List LineForm
taken_lines [] lines = []
taken_lines (taken ∷ more) [] = []
taken_lines (true ∷ more) (line ∷ lines) = line ∷ taken_lines more lines
taken_lines (false ∷ more) (line ∷ lines) = taken_lines more lines

-- the replies to the lines that were taken, with the refusal for memory at the places of the others
abbrev pub woven : List Bool → List (List ℕ) → List ℕ
woven [] replies = []
woven (true ∷ more) [] = woven more []
woven (true ∷ more) (reply ∷ replies) = reply ++ woven more replies
woven (false ∷ more) replies = memory_text ++ woven more replies

-- the line asks to close the session
abbrev pub closes : LineForm → Bool
closes form = is_close (ask_in form)

-- Each of the lines was taken or refused for memory. Those that were taken are the lines of the items, which are a legal trail without a `close`, and the
-- text is what the session is answered alone, of which each reply stands at its line's place, and the refusals at theirs.
pub record IsServed (account : Account) (contents : Contents) (lines : List LineForm) (items : List TrailItem) (text : List ℕ) : Type 0 where
  pub legal : IsLegalRow account contents items
  pub taken : List Bool
  pub each : length taken ≡ length lines
  pub own_lines : lines_in items ≡ taken_lines taken lines
  pub unclosed : filter closes (lines_in items) ≡ []
  pub answers : List Answer
  pub alone : Alone account contents.registry (view_by contents (map told_as items)) answers
  pub text_is : text ≡ woven taken (map reply_text answers)

-- The last of the lines was a `close`, which was accepted, and those before it were served. It is the last item of a legal trail, and its reply, which is the
-- last one, is what the session is answered alone.
pub record IsClosed (account : Account) (contents : Contents) (lines : List LineForm) (items : List TrailItem) (text : List ℕ) : Type 0 where
  pub before : List LineForm
  pub earlier : List TrailItem
  pub told : List ℕ
  pub served : IsServed account contents before earlier told
  pub item : TrailItem
  pub mine : whose item ≡ 0
  pub lines_are : lines ≡ before ++ line_form_of item ∷ []
  pub items_are : items ≡ earlier ++ item ∷ []
  pub closes : IsAcceptedClose account contents.registry (life_of_row account contents earlier) (ask_in (line_form_of item))
  pub legal : IsLegalRow account contents items
  pub answer : Answer
  pub alone : Alone account contents.registry (view_by contents (map told_as items)) (served.answers ++ answer ∷ [])
  pub text_is : text ≡ told ++ reply_text answer

-- The last of the lines was over the quota, and those before it were served.
pub record IsPastQuota (account : Account) (contents : Contents) (lines : List LineForm) (items : List TrailItem) (text : List ℕ) : Type 0 where
  pub before : List LineForm
  pub line : LineForm
  pub lines_are : lines ≡ before ++ line ∷ []
  pub over : is_over (life_of_row account contents items) ≡ true
  pub told : List ℕ
  pub served : IsServed account contents before items told
  pub text_is : text ≡ told ++ quota_text

-- A beginning was written of the text that is due.
pub record IsCutOff (account : Account) (contents : Contents) (lines : List LineForm) (items : List TrailItem) (text : List ℕ) : Type 0 where
  pub whole : List ℕ
  pub due : IsServed account contents lines items whole ⊎ IsClosed account contents lines items whole ⊎ IsPastQuota account contents lines items whole
  pub count : ℕ
  pub text_is : text ≡ take count whole

module _ (account : Account) (contents : Contents) where
  -- What was written where the service ends with the last of these lines.
  abbrev pub IsOver : Ended → List LineForm → List TrailItem → List ℕ → Type 0
  IsOver ended.Closed lines items text = IsClosed account contents lines items text
  IsOver ended.Quota lines items text = IsPastQuota account contents lines items text
  IsOver ended.WriteFault lines items text = IsCutOff account contents lines items text
  IsOver _ lines items text = ⊥

  -- What was written to a client who wrote these lines, however the service ended: where one of the lines ended it, those up to there were asked, and else
  -- all of them.
  abbrev pub HasServed : Ended → List LineForm → List TrailItem → List ℕ → Type 0
  HasServed ended.EndOfInput lines items text = IsServed account contents lines items text
  HasServed ended.ReadFault lines items text = IsServed account contents lines items text
  HasServed ended.Memory lines items text = ⊥
  HasServed end lines items text = (asked : List LineForm) × (rest : List LineForm) × (lines ≡ asked ++ rest) × IsOver end asked items text
