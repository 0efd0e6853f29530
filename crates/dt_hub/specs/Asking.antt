-- What a session is answered to a line.
use Rattle.std.specs.Prelude.{◌≡◌, ℕ, List, Vec}
use Rattle.std.specs.Global.{Global}
use Rattle.dt_hub.specs.declared.answered.LineAnswer.{LineAnswer}
use Rattle.dt_hub.specs.declared.answered.LineAnswer.TheVariants as answers
use Rattle.dt_life.specs.Answer.{refused}
use Rattle.dt_life.specs.declared.refusal.Refusal.TheVariants as refusals
use Rattle.dt_machine.specs.Registry.{Contents}
use Rattle.dt_proto.specs.Reply.{reply_text}
use Rattle.dt_seat.specs.Seats.{IsRepliedTo}
use Rattle.dt_seat.specs.Sessions.{Sat}
use Rattle.dt_seat.specs.declared.after_line.AfterLine.{AfterLine}
use Rattle.dt_seat.specs.declared.after_line.AfterLine.TheVariants.{GoesOn, Closes, OverQuota}
use Rattle.dt_trail.specs.Items.{StartsWith, TrailItem, own}

-- the bytes that are answered
abbrev pub answer_text : LineAnswer → List ℕ
answer_text (answers.Reply text) = text.items
answer_text (answers.Closed text) = text.items
answer_text (answers.Quota text) = text.items
answer_text answers.Memory = reply_text (refused refusals.Memory)

-- the answer that this reply comes to, by whether the session goes on
abbrev pub answered_by : Vec ℕ Global → AfterLine → LineAnswer
answered_by text GoesOn = answers.Reply text
answered_by text Closes = answers.Closed text
answered_by text OverQuota = answers.Quota text

-- What a session is answered: the reply that is due after a trail that begins with what it knew and has its lines, told by whether the session goes on after it, and it
-- then knows that trail and the line; or that there was no memory, and the session knows at least what it knew, and no further line of its own.
abbrev pub IsLineAnswered : Contents → Sat → TrailItem → LineAnswer → Sat → Type 0
IsLineAnswered contents old item (answers.Reply text) new =
    IsRepliedTo contents old.account old.knows item text.items GoesOn new.knows
IsLineAnswered contents old item (answers.Closed text) new =
    IsRepliedTo contents old.account old.knows item text.items Closes new.knows
IsLineAnswered contents old item (answers.Quota text) new =
    IsRepliedTo contents old.account old.knows item text.items OverQuota new.knows
IsLineAnswered contents old item answers.Memory new =
    StartsWith new.knows old.knows × (own 0 new.knows ≡ own 0 old.knows)
