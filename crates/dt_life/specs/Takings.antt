-- What a consumer takes: its ECBs, one after another, where a probe fires. Guide, Program Structure; Actions and
-- Subroutines (exit).
use Rattle.std.specs.Prelude.{ℕ, ℤ, pos, Bool, true, false, List, [], ◌∷◌, ◌++◌, Option, Some, None, length, map, ◌==◌}
use Rattle.std.specs.Prelude.{filter, replicate, take, is_some, option_and_then, if◌then◌else◌}
use Rattle.std.specs.List.{enumerate_from, flat_map}
use Rattle.std.specs.Option.{option_map, option_map_or, option_or, option_to_list}
use Rattle.dt_cred.specs.declared.account.Account.{Account}
use Rattle.dt_cred.specs.declared.account.Process.{Process}
use Rattle.dt_cred.specs.declared.rights.Mode.TheVariants.{User}
use Rattle.dt_machine.specs.Registry.{Registry}
use Rattle.dt_cred.specs.declared.firing.Firing.{Firing}
use Rattle.dt_cred.specs.Limits.{argument_count, frame_count}
use Rattle.dt_expr.specs.Scene.{SceneForm}
use Rattle.dt_ecb.specs.Ecbs.{EcbForm}
use Rattle.dt_locals.specs.History.{Assignment}
use Rattle.dt_machine.specs.Context.{ContextForm, context_in, context_of}
use Rattle.dt_record.specs.Pasts.{TracingPast}
use Rattle.dt_record.specs.Taking.{TakenForm, ClauseTaken, SpecEndForm, committed, discarded}
use Rattle.dt_record.specs.Taking.{is_abandoned, left_in, taking}
use Rattle.dt_record.specs.Taking as clause
use Rattle.dt_speculation.specs.History.{SpecEvent, SpecPast, put_under, free, specs_then}
use Rattle.dt_speculation.specs.Parts.{part_bytes}
use Rattle.dt_life.specs.Limits.{begin_id, end_id}
use Rattle.dt_life.specs.declared.phase.End.{End}

-- what happens to a consumer's tracing: it begins, a firing is seen, a snap of a processor's buffer is answered, the
-- aggregation of a name is truncated, it ends, or the session is closed
pub data TracingEvent : Type 0 where
  began : TracingEvent
  seen : Firing → TracingEvent
  snapped : (cpu : ℕ) → TracingEvent
  truncated : (name : List ℕ) → TracingEvent
  ended : End → TracingEvent
  closed : TracingEvent

abbrev pub is_end : TracingEvent → Bool
is_end (ended end) = true
is_end _ = false

-- An ECB that is taken: in which scene, and after what came to variables and speculations; what comes of its clause there; and
-- whether END fired it.
pub record Taking : Type 0 where
  pub scene : SceneForm
  pub past : TracingPast
  pub ecb : EcbForm
  pub taken : ClauseTaken
  pub in_end : Bool

abbrev pub scene_at : ContextForm → ℕ → SceneForm
scene_at context epid =
    record { epid = epid; probe = context.probe; process = context.process; firing = context.firing }

abbrev pub taking_of : Bool → TracingPast → ContextForm → EcbForm → Taking
taking_of in_end past context ecb = record {
  scene = scene_at context ecb.epid;
  past = past;
  ecb = ecb;
  taken = taking ecb.epid (scene_at context ecb.epid) past ecb.clause;
  in_end = in_end;
}

-- what a taking left, where it left something
abbrev pub left_by : Taking → Option TakenForm
left_by t = left_in t.taken.outcome

-- the processor on which an ECB is taken
abbrev pub cpu_of : Taking → ℕ
cpu_of t = t.scene.firing.cpu

-- the bytes of the record that it attempts to put into its processor's buffer, where it attempts one: a record that is
-- directed to a speculation isn't attempted
abbrev pub record_of : Taking → Option (List ℕ)
record_of t = option_and_then (λ (form : TakenForm). if is_some form.spec then None else form.record_bytes) (left_by t)

-- what it assigns to variables, also where a division by zero abandoned its clause later
abbrev pub assignments_of : Taking → List Assignment
assignments_of t = flat_map clause.assigned_by t.taken.effects

-- the draws that it makes, also then
abbrev pub draws_of : Taking → List SpecEvent
draws_of t = flat_map clause.drawn_by t.taken.effects

-- the record that a clause left and that is put under an identifier on a processor, where it is directed to one
abbrev pub puts_in : (cpu : ℕ) → TakenForm → List SpecEvent
puts_in cpu form = option_to_list
    (option_and_then (λ id. option_map (put_under id cpu) form.record_bytes) form.spec)

-- the record that a taking puts so
abbrev pub puts_of : Taking → List SpecEvent
puts_of t = option_to_list (option_and_then
    (λ (form : TakenForm). option_and_then (λ id. option_map (put_under id (cpu_of t)) form.record_bytes) form.spec)
    (left_by t))

-- the speculations that it ends, in order
abbrev pub ends_of : Taking → List SpecEndForm
ends_of t = option_map_or (λ (form : TakenForm). form.ends) (left_by t) []

abbrev pub ended_id : SpecEndForm → ℕ
ended_id (committed id) = id
ended_id (discarded id) = id

-- the identifiers of ends are freed
abbrev pub freed_by : List SpecEndForm → List SpecEvent
freed_by ends = map (λ end. free (ended_id end)) ends

-- what comes to speculations by a taking: its draws, the record that it puts, and then what its commits and discards free
abbrev pub spec_events_of : Taking → List SpecEvent
spec_events_of t = draws_of t ++ puts_of t ++ freed_by (ends_of t)

-- the part of a processor that a commit takes out of a speculation, if it has bytes
abbrev pub part_out : (cpu : ℕ) → SpecPast → SpecEndForm → List (List ℕ)
part_out cpu specs (committed id) = if length (part_bytes specs id cpu) == 0 then [] else part_bytes specs id cpu ∷ []
part_out cpu specs (discarded id) = []

-- the parts of a processor that commits take out, each after what the ends before it freed
abbrev pub parts_out : (cpu : ℕ) → SpecPast → List SpecEndForm → List (List ℕ)
parts_out cpu specs ends = flat_map
    (λ (one : ℕ × SpecEndForm). part_out cpu (specs_then specs (freed_by (take one.0 ends))) one.1) (enumerate_from 0 ends)

-- the parts of a processor that a taking commits, after its draws and its own record
abbrev pub parts_committed : (cpu : ℕ) → Taking → List (List ℕ)
parts_committed cpu t = parts_out cpu (specs_then t.past.specs (draws_of t ++ puts_of t)) (ends_of t)

-- the status that it exits with, where it exits
abbrev pub exit_of : Taking → Option ℤ
exit_of t = option_and_then (λ (form : TakenForm). form.exit) (left_by t)

-- the status of the first exit
abbrev pub first_exit : List Taking → Option ℤ
first_exit [] = None
first_exit (t ∷ later) = option_or (exit_of t) (first_exit later)

-- the takings up to and including the first that exits
abbrev pub through_exit : List Taking → List Taking
through_exit [] = []
through_exit (t ∷ later) = t ∷ (if is_some (exit_of t) then [] else through_exit later)

-- how many takings a division by zero ended
abbrev pub faults : List Taking → ℕ
faults takings = length (filter (λ t. is_abandoned t.taken.outcome) takings)

-- BEGIN and END fire on processor 0, in a process of the consumer's own: of number 0, with the account's uid and no
-- name.
abbrev pub own_firing : ℕ → Firing
own_firing probe = record {
  cpu = 0;
  place = 0;
  probe = probe;
  pid = 0;
  tid = 0;
  mode = User;
  timestamp = pos 0;
  args = replicate argument_count (pos 0);
  kstack = replicate frame_count 0;
  ustack = replicate frame_count 0;
}

abbrev pub own_process : Account → Process
own_process account = record { pid = 0; uid = account.uid; execname = [] }

abbrev pub own_context : Account → Registry → ℕ → Option ContextForm
own_context account registry probe = context_in registry (Some (own_process account)) (own_firing probe)

module _ (account : Account) (registry : Registry) where
  -- the context in which ECBs are taken by an event: BEGIN's, the firing's, END's
  abbrev pub context_at : TracingEvent → Option ContextForm
  context_at began = own_context account registry begin_id
  context_at (seen firing) = context_of registry firing
  context_at (snapped cpu) = None
  context_at (truncated name) = None
  context_at (ended end) = own_context account registry end_id
  context_at closed = None
