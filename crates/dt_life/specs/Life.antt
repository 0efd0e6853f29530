-- A consumer's life, and the set-up that its own lines and the firings that it saw have made of it.
use Rattle.std.specs.Prelude.{ℕ, ◌+◌, ◌==◌, ◌&&◌, ◌||◌, Bool, true, false, not, List, [], ◌∷◌, ◌++◌, Option, Some, None}
use Rattle.std.specs.Prelude.{Result, Ok, is_none, length, map, sum, nat_lt, nat_le, filter, if◌then◌else◌}
use Rattle.std.specs.List.{list_any}
use Rattle.std.specs.Option.{option_map, option_map_or, option_or}
use Rattle.dt_cred.specs.declared.account.Account.{Account}
use Rattle.dt_machine.specs.Registry.{Registry}
use Rattle.dt_cred.specs.declared.firing.Firing.{Firing}
use Rattle.dt_lang.specs.Program.{ClauseForm}
use Rattle.dt_lang.specs.Reads.{program}
use Rattle.dt_record.specs.Layout.{layout_of, layout_size}
use Rattle.dt_record.specs.Taking.{is_speculating}
use Rattle.dt_ecb.specs.Ecbs.{EcbForm, ecbs_of, of_probe}
use Rattle.dt_ecb.specs.Enable.{is_enabled}
use Rattle.dt_ecb.specs.Shapes.{ShapeForm, uses_of}
use Rattle.dt_life.specs.Aggregations.{aggregation_of}
use Rattle.dt_life.specs.Ask.{Ask, option, enable, go, stop, snap, trunc, close}
use Rattle.dt_life.specs.Options.{OptionsForm, default_options, with_setting, is_fill, is_ring}
use Rattle.dt_life.specs.Takings.{TracingEvent, began, seen, snapped, truncated, ended, closed, first_exit}
use Rattle.dt_life.specs.TracingSteps.{TracingStep, steps_since, taken_by}
use Rattle.dt_life.specs.Limits.{lines_max, end_id}
use Rattle.dt_life.specs.declared.phase.End.{End}
use Rattle.dt_life.specs.declared.phase.End.TheVariants.{Stop, Exit, History}
use Rattle.dt_life.specs.declared.phase.Phase.{Phase}
use Rattle.dt_life.specs.declared.phase.Phase.TheVariants.{Inactive, Active, Stopped}
use Rattle.dt_life.specs.declared.refusal.Refusal.{Refusal}

-- What reaches a consumer: an own line, which is a command or its refusal, or a firing.
pub data Item : Type 0 where
  asked : Result Ask Refusal → Item
  fired : Firing → Item

-- A life is what reached a consumer, the newest first: its lines but those over its quota, and the firings that it
-- saw.

abbrev pub is_line : Item → Bool
is_line (asked line) = true
is_line (fired firing) = false

-- how many lines were asked
abbrev pub lines : List Item → ℕ
lines life = length (filter is_line life)

-- The quota of lines is used up.
abbrev pub is_over : List Item → Bool
is_over life = nat_le lines_max (lines life)

abbrev pub is_inactive : Phase → Bool
is_inactive Inactive = true
is_inactive _ = false

abbrev pub is_active : Phase → Bool
is_active Active = true
is_active _ = false

abbrev pub is_stopped : Phase → Bool
is_stopped (Stopped cause) = true
is_stopped _ = false

-- What a life has made of a consumer: its options; the clauses of its accepted programs, in order of acceptance; and
-- what happened, the newest first.
pub record SetUp : Type 0 where
  pub options : OptionsForm
  pub clauses : List ClauseForm
  pub since : List TracingEvent

abbrev pub nothing_yet : SetUp
nothing_yet = record { options = default_options; clauses = []; since = [] }

abbrev pub with_options : SetUp → OptionsForm → SetUp
with_options s options = record { options = options; clauses = s.clauses; since = s.since }

abbrev pub with_program : SetUp → List ClauseForm → SetUp
with_program s clauses = record { options = s.options; clauses = s.clauses ++ clauses; since = s.since }

abbrev pub since_then : SetUp → List TracingEvent → SetUp
since_then s events = record { options = s.options; clauses = s.clauses; since = events }

abbrev pub with_event : SetUp → TracingEvent → SetUp
with_event s event = since_then s (event ∷ s.since)

-- all uses of aggregations by the accepted programs, in order
abbrev pub shapes_in : SetUp → List ShapeForm
shapes_in s = uses_of s.clauses

-- Tracing begins as BEGIN fires, and ends, for good, as END fires, or as the session is closed: then END doesn't fire, and
-- there is no cause.
abbrev pub phase_after : List TracingEvent → Phase
phase_after [] = Inactive
phase_after (began ∷ events) = Active
phase_after (seen firing ∷ events) = Active
phase_after (snapped cpu ∷ events) = phase_after events
phase_after (truncated name ∷ events) = phase_after events
phase_after (ended end ∷ events) = Stopped (Some end)
phase_after (closed ∷ events) = Stopped None

abbrev pub phase_of : SetUp → Phase
phase_of s = phase_after s.since

-- how many firings were seen
abbrev pub seen_count : List TracingEvent → ℕ
seen_count [] = 0
seen_count (seen firing ∷ events) = seen_count events + 1
seen_count (began ∷ events) = seen_count events
seen_count (snapped cpu ∷ events) = seen_count events
seen_count (truncated name ∷ events) = seen_count events
seen_count (ended end ∷ events) = seen_count events
seen_count (closed ∷ events) = seen_count events

-- A snap of a processor's buffer is answered from `go` on, under ring only after tracing ended.
abbrev pub is_readable : SetUp → Phase → Bool
is_readable s Inactive = false
is_readable s Active = not (is_ring s.options.bufpolicy)
is_readable s (Stopped cause) = true

-- how many bytes the record of a clause takes that it attempts to put into its processor's buffer
abbrev pub attempt_size : ClauseForm → ℕ
attempt_size clause = if list_any is_speculating clause.statements then 0 else layout_size (layout_of clause)

module _ (account : Account) (registry : Registry) where
  -- a consumer's ECBs, and the EPID of its next one
  abbrev pub ecbs_in : SetUp → List EcbForm
  ecbs_in s = ecbs_of account registry s.clauses

  abbrev pub next_epid : SetUp → ℕ
  next_epid s = length (ecbs_in s) + 1

  -- A program is accepted before tracing begins, where it is enabled after those accepted before it.
  abbrev pub accepts : SetUp → List ClauseForm → Bool
  accepts s clauses = is_inactive (phase_of s) && is_enabled account registry (shapes_in s) (next_epid s) clauses

  -- the bytes of one record of each of END's ECBs whose record isn't directed to a speculation
  abbrev pub end_size : SetUp → ℕ
  end_size s = sum (map (λ (ecb : EcbForm). attempt_size ecb.clause) (of_probe end_id (ecbs_in s)))

  -- Under fill, processor 0 keeps room for END's records, and there must be room for them.
  abbrev pub has_room : SetUp → Bool
  has_room s = not (is_fill s.options.bufpolicy) || nat_le (end_size s) s.options.bufsize

  -- the steps of a consumer's tracing
  abbrev pub tracing_steps : SetUp → List TracingStep
  tracing_steps s = steps_since account registry s.options (ecbs_in s) s.since

  -- Why tracing ends by an event that happens next: an exit is taken, or the firing is the last of the history.
  abbrev pub end_by : SetUp → TracingEvent → Option End
  end_by s event = option_or
      (option_map Exit (first_exit (taken_by account registry s.options (ecbs_in s) (tracing_steps s) event)))
      (if seen_count (event ∷ s.since) == s.options.histsize then Some History else None)

  -- Something happens, and where tracing ends by it, END fires in the same step.
  abbrev pub happens : SetUp → TracingEvent → SetUp
  happens s event = option_map_or
      (λ end. with_event (with_event s event) (ended end)) (end_by s event) (with_event s event)

  -- Only what has an effect changes the set-up: options and programs before tracing begins, the first `go`, and then
  -- snaps that are answered, truncations of aggregations, firings, one `stop`, and a `close` where it hasn't stopped.
  abbrev pub after_item : SetUp → Item → SetUp
  after_item s (asked (Ok (option (Some setting)))) =
      if is_inactive (phase_of s) then with_options s (with_setting s.options setting) else s
  after_item s (asked (Ok (enable (program clauses)))) = if accepts s clauses then with_program s clauses else s
  after_item s (asked (Ok go)) =
      if is_inactive (phase_of s) && has_room s then happens (since_then s []) began else s
  after_item s (asked (Ok stop)) = if is_active (phase_of s) then with_event s (ended Stop) else s
  after_item s (asked (Ok (snap cpu))) =
      if nat_lt cpu registry.cpus && is_readable s (phase_of s) then with_event s (snapped cpu) else s
  after_item s (asked (Ok (trunc name))) =
      if is_inactive (phase_of s) || is_none (aggregation_of (shapes_in s) name) then s else
      with_event s (truncated name)
  after_item s (asked (Ok close)) = if is_stopped (phase_of s) then s else with_event s closed
  after_item s (fired firing) = if is_active (phase_of s) then happens s (seen firing) else s
  after_item s _ = s

  abbrev pub set_up : List Item → SetUp
  set_up [] = nothing_yet
  set_up (item ∷ life) = after_item (set_up life) item

  -- How far a consumer has come: active from its accepted `go` on, until it ends.
  abbrev pub phase : List Item → Phase
  phase life = phase_of (set_up life)

  -- the consumer's ECBs
  abbrev pub ecbs : List Item → List EcbForm
  ecbs life = ecbs_in (set_up life)
