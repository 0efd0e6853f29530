-- What a run answers.
use Rattle.std.specs.Prelude.{◌≡◌, ℕ, ◌==◌, ◌&&◌, Bool, List, [], ◌∷◌, Option, map, MatchOption, if◌then◌else◌}
use Rattle.dt_machine.specs.Registry.{Registry}
use Rattle.dt_chain.specs.Seats.{life_at}
use Rattle.dt_chain.specs.declared.seat_mask.SeatMask.{SeatMask}
use Rattle.dt_life.specs.Answer.{Answer}
use Rattle.dt_proto.specs.Alone.{Alone, IsText}
use Rattle.dt_proto.specs.Reply.{reply_text}
use Rattle.dt_steps.specs.World.{World, Session, Question}

-- a reply as the number of its seat and its bytes
abbrev pub SeatReply : Type 0
SeatReply = ℕ × List ℕ

-- The reply to a question, at its seat.
abbrev pub IsReply : Registry → Question → SeatReply → Type 0
IsReply registry question told =
    (told.0 ≡ question.seat) × IsText question.account registry question.view question.line told.1

-- The replies to questions, one to each, in order.
abbrev pub AreReplies : Registry → List Question → List SeatReply → Type 0
AreReplies registry [] [] = Unit {0}
AreReplies registry [] (told ∷ more) = ⊥
AreReplies registry (question ∷ questions) [] = ⊥
AreReplies registry (question ∷ questions) (told ∷ more) =
    IsReply registry question told × AreReplies registry questions more

-- The masks of looks, one of each, in order.
abbrev pub AreMasks : List (ℕ → Option ℕ) → List SeatMask → Type 0
AreMasks [] [] = Unit {0}
AreMasks [] (mask ∷ masks) = ⊥
AreMasks (look ∷ looks) [] = ⊥
AreMasks (look ∷ looks) (mask ∷ masks) = ((seat : ℕ) → life_at mask seat ≡ look seat) × AreMasks looks masks

-- What a run told so far: the replies to the world's questions, and the masks of its looks.
pub record HasTold (registry : Registry) (world : World) (told : List SeatReply) (named : List SeatMask) : Type 0 where
  pub replies : AreReplies registry world.questions told
  pub masks : AreMasks world.looks named

-- the question is one of this session
abbrev pub is_of : (seat n : ℕ) → Question → Bool
is_of seat n question = (question.seat == seat) && (question.number == n)

-- what was told to a session, of replies that answer these questions
abbrev pub told_to : (seat n : ℕ) → List Question → List SeatReply → List (List ℕ)
told_to seat n (question ∷ questions) (told ∷ more) =
    if is_of seat n question then told.1 ∷ told_to seat n questions more else told_to seat n questions more
told_to seat n _ _ = []

-- What a session was told is what its view is answered alone, none missing and none more; where there was no session,
-- nothing was told.
abbrev pub IsAnsweredAlone : Registry → Option Session → List (List ℕ) → Type 0
IsAnsweredAlone registry session told = MatchOption session (told ≡ [])
    (λ s. (answers : List Answer) × Alone s.account registry s.view answers × (told ≡ map reply_text answers))
