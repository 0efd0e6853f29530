-- What a runner has answered to a line.
use Rattle.std.specs.Prelude.{◌≡◌, ℕ, List, Result}
use Rattle.dt_cred.specs.declared.account.Account.{Account}
use Rattle.dt_machine.specs.Registry.{Registry}
use Rattle.dt_life.specs.Answer.{Answer}
use Rattle.dt_life.specs.Ask.{Ask}
use Rattle.dt_life.specs.Acceptance.{after_line}
use Rattle.dt_life.specs.Life.{Item}
use Rattle.dt_life.specs.Reply.{Replies}
use Rattle.dt_life.specs.declared.refusal.Refusal.{Refusal}
use Rattle.dt_proto.specs.Reply.{reply_text}
use Rattle.dt_alone.specs.Runs.{Runs}
use Rattle.dt_alone.specs.declared.runner.Runner.{Runner}

-- The bytes are the reply to what a line asks after a life, and the runner has run the life with the line.
pub record AnswersAsk (account : Account) (registry : Registry) (life : List Item) (ask : Result Ask Refusal)
    (runner : Runner) (bytes : List ℕ) : Type 0 where
  pub answer : Answer
  pub replies : Replies account registry life ask answer
  pub text : bytes ≡ reply_text answer
  pub runs : Runs account registry runner (after_line life ask)
