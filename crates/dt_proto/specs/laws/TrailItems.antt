-- What the crates above need of replies, without the JSON in them.
use Rattle.std.proofs.Common.{◌≡◌, List, ℕ, refl}
use Rattle.serde_json.specs.Data.{object}
use Rattle.serde_json.specs.Written.{compact_text}
use Rattle.dt_life.specs.Answer.{Answer}
use Rattle.dt_proto.specs.Reply.{reply_members, reply_text}
use Rattle.dt_proto.specs.Splits.{with_newline}

-- the text of a reply ends with a newline
pub reply_line_of : (answer : Answer) → (reply : List ℕ) × (with_newline reply ≡ reply_text answer)
reply_line_of answer = (compact_text (object (reply_members answer)), refl)
