-- Legal trails, and those with the right replies.
use Rattle.std.specs.Prelude.{◌≡◌, ℕ, ◌<◌, false, List, [], ◌∷◌, Some, option_map}
use Rattle.std.specs.List.{flat_map, AllByRecursion}
use Rattle.std.specs.Option.{option_to_list}
use Rattle.dt_cred.specs.declared.account.Account.{Account}
use Rattle.dt_machine.specs.Registry.{Contents, firing_at}
use Rattle.dt_cred.specs.declared.firing.Firing.{Firing}
use Rattle.dt_life.specs.Answer.{Answer}
use Rattle.dt_life.specs.Life.{Item, asked, fired, is_over}
use Rattle.dt_life.specs.Reply.{Replies}
use Rattle.dt_life.specs.Sees.{Sees}
use Rattle.dt_proto.specs.Alone.{Reached, own_line, firing_made}
use Rattle.dt_proto.specs.Line.{ask_in}
use Rattle.dt_proto.specs.Lines.{line_form, long_line}
use Rattle.dt_proto.specs.Reply.{reply_text}
use Rattle.dt_proto.specs.Splits.{with_newline}
use Rattle.dt_proto.specs.Trail.{WrittenItem, line_asked, long_asked, fired_at}

-- A firing of this processor has a lower place than this one.
abbrev pub HasLowerPlace : (cpu place : ℕ) → WrittenItem → Type 0
HasLowerPlace cpu place (fired_at n earlier) = n ≡ cpu → earlier < place
HasLowerPlace cpu place _ = Unit {0}

-- the place is above those of the processor's firings so far
abbrev pub IsAbove : List WrittenItem → (cpu place : ℕ) → Type 0
IsAbove past cpu place = AllByRecursion (HasLowerPlace cpu place) past

-- The items so far are called the past; the newest goes first.
module _ (account : Account) (contents : Contents) where
  -- what an item is to its consumer, where it is something
  abbrev pub life_item_by : WrittenItem → List Item
  life_item_by (line_asked line reply) = asked (ask_in (line_form line)) ∷ []
  life_item_by (long_asked reply) = asked (ask_in long_line) ∷ []
  life_item_by (fired_at cpu place) = option_to_list (option_map fired (firing_at contents.scripts cpu place))

  -- the life that items tell
  abbrev pub life_of_trail : List WrittenItem → List Item
  life_of_trail past = flat_map life_item_by past

  -- An item may stand after these: a line within the quota; a firing of the processor's script, at a higher place than
  -- those before it there, that is seen.
  abbrev pub MayStand : List WrittenItem → WrittenItem → Type 0
  MayStand past (line_asked line reply) = is_over (life_of_trail past) ≡ false
  MayStand past (long_asked reply) = is_over (life_of_trail past) ≡ false
  MayStand past (fired_at cpu place) = IsAbove past cpu place
      × ((firing : Firing) × (firing_at contents.scripts cpu place ≡ Some firing)
      × Sees account contents.registry (life_of_trail past) firing)

  -- Items tell a legal trail: each may stand after those before it, whatever its reply.
  abbrev pub IsLegal : List WrittenItem → Type 0
  IsLegal [] = Unit {0}
  IsLegal (item ∷ past) = IsLegal past × MayStand past item

  -- The reply of an item is the one that is due.
  abbrev pub IsRight : List WrittenItem → WrittenItem → Type 0
  IsRight past (line_asked line reply) =
      (answer : Answer) × Replies account contents.registry (life_of_trail past) (ask_in (line_form line)) answer
      × (with_newline reply ≡ reply_text answer)
  IsRight past (long_asked reply) =
      (answer : Answer) × Replies account contents.registry (life_of_trail past) (ask_in long_line) answer
      × (with_newline reply ≡ reply_text answer)
  IsRight past (fired_at cpu place) = Unit {0}

  -- A legal trail with the right replies.
  abbrev pub Agrees : List WrittenItem → Type 0
  Agrees [] = Unit {0}
  Agrees (item ∷ past) = Agrees past × MayStand past item × IsRight past item

-- what an item says that reached its consumer
abbrev pub reached_by : Contents → WrittenItem → List Reached
reached_by contents (line_asked line reply) = own_line (line_form line) ∷ []
reached_by contents (long_asked reply) = own_line long_line ∷ []
reached_by contents (fired_at cpu place) =
    option_to_list (option_map firing_made (firing_at contents.scripts cpu place))
