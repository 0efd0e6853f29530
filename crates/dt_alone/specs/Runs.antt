-- What a runner is, given its life.
use Rattle.std.specs.Prelude.{◌≡◌, ℕ, suc, List, [], ◌∷◌, MatchOption, Ok, map}
use Rattle.dt_cred.specs.declared.account.Account.{Account}
use Rattle.dt_lang.specs.Program.{form_of_clause}
use Rattle.dt_machine.specs.Registry.{Registry}
use Rattle.dt_ecb.specs.Forms.{shapes_of}
use Rattle.dt_life.specs.Forms.{form_of_options}
use Rattle.dt_alone.specs.Happened.{Brings}
use Rattle.dt_alone.specs.Kept.{IsKeptAt}
use Rattle.dt_alone.specs.declared.happened.StatusCount.{StatusCount}
use Rattle.dt_alone.specs.declared.happened.StatusCount.TheVariants as counted
use Rattle.dt_alone.specs.declared.kept.KeptState.{KeptState}
use Rattle.dt_alone.specs.declared.runner.Runner.{Runner}
use Rattle.dt_life.specs.Answer.{answer_of}
use Rattle.dt_life.specs.Ask.{Ask}
use Rattle.dt_life.specs.Placed.{AreEcbs}
use Rattle.dt_life.specs.Life.{Item, asked, SetUp, ecbs_in, lines, phase_of, seen_count, set_up, shapes_in, tracing_steps}
use Rattle.dt_life.specs.Reply.{RepliesInQuota, all_dyndrops, all_errors, all_specdrops}
use Rattle.dt_life.specs.Takings.{TracingEvent, began, seen}
use Rattle.dt_life.specs.declared.phase.Phase.{Phase}
use Rattle.dt_life.specs.declared.phase.Phase.TheVariants.{Active, Inactive}
use Rattle.dt_life.specs.declared.reply.Reply.{Reply}

module _ (account : Account) (registry : Registry) where
  -- A runner has a set-up as plain data, but its phase is this one.
  pub record HasIn (s : SetUp) (phase : Phase) (runner : Runner) : Type 0 where
    pub same_account : runner.account ≡ account
    pub options : form_of_options runner.options ≡ s.options
    pub clauses : map form_of_clause runner.programs.clauses.items ≡ s.clauses
    pub ecbs : AreEcbs s.clauses (ecbs_in account registry s) runner.programs.ecbs.items
    pub shapes : shapes_of runner.programs.shapes ≡ shapes_in s
    pub standing : runner.phase ≡ phase
    pub idle : phase ≡ Inactive → s.since ≡ []
    pub seen : runner.seen ≡ seen_count s.since
    pub brings : Brings registry.cpus (shapes_in s) s.options runner.since.items (tracing_steps account registry s)

  -- Variables and speculations are after the steps of a set-up, on all processors.
  abbrev pub KeepsAfter : SetUp → KeptState → Type 0
  KeepsAfter s kept = (kept.cpus ≡ registry.cpus) × IsKeptAt s.options (tracing_steps account registry s) kept

  -- A runner has a set-up as plain data, and while it traces the variables and the speculations.
  pub record Has (s : SetUp) (runner : Runner) : Type 0 where
    pub within : HasIn s (phase_of s) runner
    pub kept : MatchOption runner.kept (phase_of s ≡ Active → ⊥) (λ kept. (phase_of s ≡ Active) × KeepsAfter s kept)

  -- A runner has all that happened in a life.
  pub record Runs (runner : Runner) (life : List Item) : Type 0 where
    pub has : Has (set_up account registry life) runner
    pub counted : runner.lines ≡ lines life

  -- A runner has all that happened in a life, and counts a line more, which is to be answered.
  pub record HasAsked (runner : Runner) (life : List Item) : Type 0 where
    pub has : Has (set_up account registry life) runner
    pub counted : runner.lines ≡ suc (lines life)

  -- The reply to a command within the quota is the definition's, and the runner then has the life with its line.
  abbrev pub Answers : List Item → Ask → Reply → Runner → Type 0
  Answers life ask reply runner =
      RepliesInQuota account registry life (Ok ask) (answer_of reply) × Runs runner (asked (Ok ask) ∷ life)

-- BEGIN fires, or a firing is seen.
abbrev pub IsFiring : TracingEvent → Type 0
IsFiring began = Unit {0}
IsFiring (seen firing) = Unit {0}
IsFiring _ = ⊥

-- what a status tells of what is counted on each processor
abbrev pub all_counted : Account → Registry → List Item → StatusCount → List ℕ
all_counted account registry life counted.Failed = all_errors account registry life
all_counted account registry life counted.VariableDropped = all_dyndrops account registry life
all_counted account registry life counted.RecordDropped = all_specdrops account registry life
