-- What holds at each turn of a loop of `alone`.
use Rattle.std.proofs.Common.{◌≡◌, List, take, map}
use Rattle.dt_life.specs.Answer.{Answer}
use Rattle.dt_life.specs.Life.{Item}
use Rattle.dt_proto.specs.Alone.{IsLifeOf, Alone}
use Rattle.dt_proto.specs.Reply.{reply_text}
use Rattle.dt_alone.specs.Items.{view_of}
use Rattle.dt_alone.specs.Runs.{Runs}
use Rattle.dt_alone.proofs.replies.alone.Given as goal

-- the runner has run the life of the items so far, and the replies are those to their lines
abbrev pub invariant-loop-item : goal.invariant-loop-item
invariant-loop-item l = record {
  life : List Item;
  lives : IsLifeOf l.account l.machine.registry (view_of (take l.item-index l.items)) life;
  runs : Runs l.account l.machine.registry l.runner life;
  answers : List Answer;
  alone : Alone l.account l.machine.registry (view_of (take l.item-index l.items)) answers;
  written : map (λ reply. reply.items) l.replies.items ≡ map reply_text answers;
}
