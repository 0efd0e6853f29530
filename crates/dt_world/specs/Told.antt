-- What is written of a world while its steps are taken: the replies, or the trail of the first session on a seat.
use Rattle.std.specs.Prelude.{◌≡◌, ℕ, ◌++◌, ◌==◌, ◌&&◌, Bool, true, false, List, [], codes, if◌then◌else◌}
use Rattle.std.specs.List.{flat_map}
use Rattle.dt_cred.specs.declared.account.Account.{Account}
use Rattle.dt_machine.specs.Registry.{Registry, Contents}
use Rattle.dt_proto.specs.Lines.{LineForm, short_line, long_line}
use Rattle.dt_proto.specs.Splits.{with_newline}
use Rattle.dt_proto.specs.Trail.{fired_at, item_text}
use Rattle.dt_steps.specs.Ran.{SeatReply as Reply, AreReplies}
use Rattle.dt_world.specs.Replay.{IsReplay, IsTrailReplay, IsTrailText, told_line}
use Rattle.dt_steps.specs.World.{World, Question, session_of}
use Rattle.dt_world.specs.declared.output.Output.{Output}
use Rattle.dt_world.specs.declared.output.Wanted.{Wanted}
use Rattle.dt_world.specs.declared.output.Wanted.TheVariants as wanted

-- what is written for an input, as it is wanted
abbrev pub IsOutput : Wanted → Contents → (text output : List ℕ) → Type 0
IsOutput wanted.Replies contents text output = IsReplay contents text output
IsOutput (wanted.Trail seat) contents text output = IsTrailReplay contents text seat output

-- the text of the replies to these questions
abbrev pub IsToldText : Registry → List Question → List ℕ → Type 0
IsToldText registry questions text =
    (told : List Reply) × AreReplies registry questions told × (text ≡ flat_map told_line told)

-- What is written of a world, as it is wanted.
abbrev pub IsTold : Wanted → Registry → World → List ℕ → Type 0
IsTold wanted.Replies registry world text = IsToldText registry world.questions text
IsTold (wanted.Trail seat) registry world text = IsTrailText registry (session_of world seat 0) text

-- the trail of a session is wanted: it is on this seat, and the first there or not
abbrev pub follows : Wanted → (seat : ℕ) → (first : Bool) → Bool
follows wanted.Replies seat first = false
follows (wanted.Trail own) seat first = (seat == own) && first

-- what is written as the first session on a seat begins
abbrev pub opening_text : Wanted → (seat : ℕ) → Account → List ℕ
opening_text wanted seat account =
    if follows wanted seat true then with_newline (codes "account " ++ account.name) else []

-- the line of a trail that tells of a line
abbrev pub line_told : LineForm → List ℕ
line_told (short_line line) = with_newline (codes "line " ++ line)
line_told long_line = with_newline (codes "long")

-- What a trail says of a line, whose reply has its newline already: over the quota nothing.
abbrev pub answer_told : LineForm → (reply : List ℕ) → (over : Bool) → List ℕ
answer_told line reply true = []
answer_told line reply false = line_told line ++ (codes "reply " ++ reply)

-- what is written for a line
abbrev pub reply_told : Wanted → (seat : ℕ) → (first : Bool) → LineForm → (reply : List ℕ) → (over : Bool) → List ℕ
reply_told wanted.Replies seat first line reply over = told_line (seat, reply)
reply_told (wanted.Trail own) seat first line reply over =
    if follows (wanted.Trail own) seat first then answer_told line reply over else []

-- what is written for a firing that is seen
abbrev pub firing_told : Wanted → (seat : ℕ) → (first : Bool) → (cpu place : ℕ) → List ℕ
firing_told wanted seat first cpu place = if follows wanted seat first then item_text (fired_at cpu place) else []

-- This was written in addition.
pub record Tells (old new : Output) (more : List ℕ) : Type 0 where
  pub wanted : new.wanted ≡ old.wanted
  pub text : new.text.items ≡ old.text.items ++ more
