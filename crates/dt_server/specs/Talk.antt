-- How the service of a session goes on, line by line. Only the proof needs these.
use Rattle.std.specs.Prelude.{◌≡◌, ℕ, List, ◌++◌, Option, Some, None}
use Rattle.dt_cred.specs.declared.account.Account.{Account}
use Rattle.dt_hub.specs.declared.answered.LineAnswer.{LineAnswer}
use Rattle.dt_hub.specs.declared.answered.LineAnswer.TheVariants as answers
use Rattle.dt_legal.specs.Rows.{IsLegalRow, line_form_of}
use Rattle.dt_machine.specs.Registry.{Contents}
use Rattle.dt_proto.specs.Lines.{LineForm}
use Rattle.dt_seat.specs.Seats.{IsRepliedTo}
use Rattle.dt_seat.specs.declared.after_line.AfterLine.TheVariants as endings
use Rattle.dt_server.specs.Served.{IsServed, IsOver}
use Rattle.dt_server.specs.declared.ended.Ended.{Ended}
use Rattle.dt_server.specs.declared.ended.Ended.TheVariants as ended
use Rattle.dt_trail.specs.Items.{StartsWith, TrailItem, own, whose}

module _ (account : Account) (contents : Contents) where
  -- What becomes of a line that is asked: it is answered as a hub's session is, or there was no memory for it, and the session, which has caught up,
  -- has no further line.
  abbrev pub ComesOfAsking : List TrailItem → LineForm → LineAnswer → List TrailItem → Type 0
  ComesOfAsking known form (answers.Reply text) after = (item : TrailItem) × (whose item ≡ 0) × (line_form_of item ≡ form)
      × IsRepliedTo contents account known item text.items endings.GoesOn after
  ComesOfAsking known form (answers.Closed text) after = (item : TrailItem) × (whose item ≡ 0) × (line_form_of item ≡ form)
      × IsRepliedTo contents account known item text.items endings.Closes after
  ComesOfAsking known form (answers.Quota text) after = (item : TrailItem) × (whose item ≡ 0) × (line_form_of item ≡ form)
      × IsRepliedTo contents account known item text.items endings.OverQuota after
  ComesOfAsking known form answers.Memory after =
      StartsWith after known × (own 0 after ≡ own 0 known) × IsLegalRow account contents after

  -- After whatever was served, these lines are served too, and this is written.
  abbrev pub ServesOn : (before after : List TrailItem) → List LineForm → List ℕ → Type 0
  ServesOn before after asked more = (lines : List LineForm) (text : List ℕ) → IsServed account contents lines before text
      → IsServed account contents (lines ++ asked) after (text ++ more)

  -- The same, where the service ends with the last of these lines.
  abbrev pub ServesToEnd : Ended → (before after : List TrailItem) → List LineForm → List ℕ → Type 0
  ServesToEnd end before after asked more = (lines : List LineForm) (text : List ℕ) → IsServed account contents lines before text
      → IsOver account contents end (lines ++ asked) after (text ++ more)

  -- Of these lines the first were asked, and the service ends with the last of those.
  abbrev pub ServesToEndWithin : Ended → (before after : List TrailItem) → List LineForm → List ℕ → Type 0
  ServesToEndWithin end before after lines more = (asked : List LineForm) × (rest : List LineForm) × (lines ≡ asked ++ rest)
      × ServesToEnd end before after asked more

  -- How a service ends whose client wrote these lines: where a line ends it, all before it were served, and else all.
  abbrev pub IsTalk : Ended → (before after : List TrailItem) → List LineForm → List ℕ → Type 0
  IsTalk ended.EndOfInput before after lines more = ServesOn before after lines more
  IsTalk ended.ReadFault before after lines more = ServesOn before after lines more
  IsTalk ended.Memory before after lines more = ⊥
  IsTalk end before after lines more = ServesToEndWithin end before after lines more

-- The service ends with a line.
abbrev pub IsOfLine : Ended → Type 0
IsOfLine ended.Closed = Unit {0}
IsOfLine ended.Quota = Unit {0}
IsOfLine ended.WriteFault = Unit {0}
IsOfLine _ = ⊥

-- how the service ends after this answer, where it does
abbrev pub ended_after : LineAnswer → Option Ended
ended_after (answers.Reply text) = None
ended_after (answers.Closed text) = Some ended.Closed
ended_after (answers.Quota text) = Some ended.Quota
ended_after answers.Memory = None
