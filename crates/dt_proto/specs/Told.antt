-- What the items of a trail tell: a view, and the replies that it is answered alone.
use Rattle.std.specs.Prelude.{◌≡◌, List, map, reverse}
use Rattle.std.specs.List.{flat_map}
use Rattle.dt_cred.specs.declared.account.Account.{Account}
use Rattle.dt_machine.specs.Registry.{Contents}
use Rattle.dt_life.specs.Answer.{Answer}
use Rattle.dt_proto.specs.Alone.{Reached, Alone}
use Rattle.dt_proto.specs.Legal.{reached_by}
use Rattle.dt_proto.specs.Reply.{reply_text}
use Rattle.dt_proto.specs.Trail.{WrittenItem, replies_of}

-- the view that a past tells: in both the newest goes first
abbrev pub view_told : Contents → List WrittenItem → List Reached
view_told contents past = flat_map (reached_by contents) past

-- the view that items tell, the oldest first, of which the newest goes first
abbrev pub view_by : Contents → List WrittenItem → List Reached
view_by contents items = view_told contents (reverse items)

-- The replies of items, the oldest first, are those that a consumer is answered which traces alone, with just what
-- these items tell.
abbrev pub AreRepliesAlone : Account → Contents → List WrittenItem → Type 0
AreRepliesAlone account contents items =
    (answers : List Answer) × Alone account contents.registry (view_by contents items) answers
    × (replies_of items ≡ map reply_text answers)
