-- What a replay does, line by line, and what it writes.
use Rattle.std.specs.Prelude.{◌≡◌, ℕ, ◌+◌, ◌==◌, ◌&&◌, Bool, false, List, [], ◌∷◌, ◌++◌, codes, decimal, Option, None}
use Rattle.std.specs.Prelude.{is_some, MatchOption, filter, fold, map, if◌then◌else◌}
use Rattle.std.specs.List.{flat_map, range_with_len}
use Rattle.std.specs.Option.{option_map_or}
use Rattle.dt_chain.specs.Limits.{seat_count}
use Rattle.dt_machine.specs.Registry.{Registry, Contents, firing_at}
use Rattle.dt_cred.specs.declared.firing.Firing.{Firing}
use Rattle.dt_proto.specs.Lines.{line_form}
use Rattle.dt_proto.specs.Trail.{WrittenItem, IsTrailOf, trail_text}
use Rattle.dt_world.specs.Input.{AreStepLines, input_lines}
use Rattle.dt_steps.specs.Ran.{SeatReply, AreReplies}
use Rattle.dt_world.specs.StepLine.{StepLineForm, open_line, close_line, withdraw_line, ask_line, publish_line}
use Rattle.dt_world.specs.StepLine.{finish_line, look_line, offer_line, call_line, fire_line}
use Rattle.dt_steps.specs.Steps.{StepForm, opens, asks, publishes, finishes, withdraws, looks, offers, closes, after_step}
use Rattle.dt_steps.specs.Steps.{asking, looking, is_done}
use Rattle.dt_steps.specs.World.{World, Session, new_world, session_of, waits, has_closed}

-- Where a replay stands: the world, and how many firings of each processor's script were taken.
pub record Replayed : Type 0 where
  pub world : World
  pub taken : (cpu : ℕ) → ℕ

abbrev pub beginning : Replayed
beginning = record { world = new_world; taken = λ cpu. 0 }

-- the seats to which a processor owes an offer, by rising seat
unfoldable pub seats_due : World → (cpu : ℕ) → List ℕ
seats_due world cpu = filter (λ seat. is_some (world.due cpu seat)) (range_with_len 0 seat_count)

-- what a `call` does after its ask: a pending `go` is published and finished; an accepted `close` ends the session
abbrev pub after_ask : Registry → World → (seat : ℕ) → List StepForm
after_ask registry world seat =
    if waits (world.places seat) then publishes seat ∷ finishes seat ∷ []
    else if has_closed registry (world.places seat) then withdraws seat ∷ closes seat ∷ [] else []

-- what a `fire` does with the firing that it took: a look, and an offer to each seat that this named
abbrev pub firing_steps : Registry → World → (cpu : ℕ) → Firing → List StepForm
firing_steps registry world cpu firing =
    looks cpu firing ∷ map (offers cpu) (seats_due (looking registry world cpu firing) cpu)

module _ (contents : Contents) where
  -- the firing that a processor takes now: the next of its script, where one is left and no offer of the processor is
  abbrev pub next_of : Replayed → (cpu : ℕ) → Option Firing
  next_of now cpu = if is_done (now.world.due cpu) then firing_at contents.scripts cpu (now.taken cpu) else None

  -- the steps of the world that a line is, where the replay stands
  abbrev pub steps_of_line : Replayed → StepLineForm → List StepForm
  steps_of_line now (open_line seat account) = opens seat account ∷ []
  steps_of_line now (close_line seat) = closes seat ∷ []
  steps_of_line now (withdraw_line seat) = withdraws seat ∷ []
  steps_of_line now (ask_line seat line) = asks seat (line_form line) ∷ []
  steps_of_line now (publish_line seat) = publishes seat ∷ []
  steps_of_line now (finish_line seat) = finishes seat ∷ []
  steps_of_line now (look_line cpu) = option_map_or (λ firing. looks cpu firing ∷ []) (next_of now cpu) []
  steps_of_line now (offer_line cpu seat) = offers cpu seat ∷ []
  steps_of_line now (call_line seat line) = asks seat (line_form line)
      ∷ after_ask contents.registry (asking contents.registry now.world seat (line_form line)) seat
  steps_of_line now (fire_line cpu) = option_map_or (firing_steps contents.registry now.world cpu) (next_of now cpu) []

  -- the line takes a firing of this processor's script
  abbrev pub takes_firing : Replayed → StepLineForm → (cpu : ℕ) → Bool
  takes_firing now (look_line cpu) other = is_some (next_of now cpu) && other == cpu
  takes_firing now (fire_line cpu) other = is_some (next_of now cpu) && other == cpu
  takes_firing now _ other = false

  -- where a replay stands after a line more
  abbrev pub after_step_line : Replayed → StepLineForm → Replayed
  after_step_line now line = record {
    world = fold (after_step contents.registry) now.world (steps_of_line now line);
    taken = λ cpu. if takes_firing now line cpu then now.taken cpu + 1 else now.taken cpu;
  }

  -- where a replay stands after these lines, the oldest first
  abbrev pub replayed : List StepLineForm → Replayed
  replayed forms = fold after_step_line beginning forms

  -- all steps of these lines, from where the replay stands
  abbrev pub steps_from : Replayed → List StepLineForm → List StepForm
  steps_from now [] = []
  steps_from now (line ∷ forms) = steps_of_line now line ++ steps_from (after_step_line now line) forms

-- the line that is written for a reply: the seat, a blank, the reply
abbrev pub told_line : SeatReply → List ℕ
told_line told = decimal told.0 ++ (codes " " ++ told.1)

-- the trail of a session; without one there is nothing
abbrev pub IsTrailText : Registry → Option Session → List ℕ → Type 0
IsTrailText registry session output = MatchOption session (output ≡ [])
    (λ s. (items : List WrittenItem) × IsTrailOf s.account registry s.view items
    × (output ≡ trail_text s.account.name items))

-- What is written for an input on a machine: the replies, each on a line of its own.
pub record IsReplay (contents : Contents) (text output : List ℕ) : Type 0 where
  pub forms : List StepLineForm
  pub told : List SeatReply
  pub lines : AreStepLines contents.registry (input_lines text) forms
  pub replies : AreReplies contents.registry (replayed contents forms).world.questions told
  pub written : output ≡ flat_map told_line told

-- What is written where the trail of a seat is wanted: that of the first session on it.
pub record IsTrailReplay (contents : Contents) (text : List ℕ) (seat : ℕ) (output : List ℕ) : Type 0 where
  pub forms : List StepLineForm
  pub lines : AreStepLines contents.registry (input_lines text) forms
  pub trail : IsTrailText contents.registry (session_of (replayed contents forms).world seat 0) output
