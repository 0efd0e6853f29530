-- What a draft says of the change that a line will make.
use Rattle.std.specs.Prelude.{◌≡◌, ◌<◌, ◌≤◌, ◌+◌, ℕ, true, false, List, All, Some, None, [], ◌∷◌, ◌++◌, Result, Ok, map, vec_len}
use Rattle.dt_cred.specs.declared.account.Account.{Account}
use Rattle.dt_machine.specs.Registry.{Registry}
use Rattle.dt_lang.specs.Program.{form_of_clause}
use Rattle.dt_lang.specs.Reads.{program}
use Rattle.dt_ecb.specs.Ecbs.{added}
use Rattle.dt_ecb.specs.Enable.{is_enabled}
use Rattle.dt_ecb.specs.Forms.{shapes_of}
use Rattle.dt_ecb.specs.Shapes.{uses_of}
use Rattle.dt_life.specs.Answer.{answer_of}
use Rattle.dt_life.specs.Aggregations.{aggregation_of}
use Rattle.dt_life.specs.Ask.{Ask, enable, stop, snap, trunc}
use Rattle.dt_life.specs.Placed.{AreEcbs}
use Rattle.dt_consumer.specs.Keeps.{IsTracing}
use Rattle.dt_life.specs.Forms.{form_of_options}
use Rattle.dt_life.specs.Life.{Item, asked, SetUp, is_over, set_up, since_then, happens, is_readable, next_epid, phase}
use Rattle.dt_life.specs.Life.{with_options, shapes_in, is_inactive}
use Rattle.dt_life.specs.Reply.{Replies}
use Rattle.dt_life.specs.Takings.{began}
use Rattle.dt_ecb.specs.Limits.{ecbs_max}
use Rattle.dt_consumer.specs.Placing.{HasRoomFor, IsPlaced}
use Rattle.dt_consumer.specs.declared.consumer.Consumer.{Consumer}
use Rattle.dt_consumer.specs.declared.draft.Change.{Change}
use Rattle.dt_consumer.specs.declared.draft.Change.TheVariants.{Counted, Set, Enable, Go, Stop, Snap, Trunc, Close}
use Rattle.dt_consumer.specs.declared.draft.Change.TheVariants.{Uncounted}
use Rattle.dt_consumer.specs.declared.draft.Draft.{Draft}
use Rattle.dt_consumer.specs.declared.tracing.Tracing.{Tracing}
use Rattle.dt_life.specs.declared.phase.Phase.TheVariants.{Inactive, Active}
use Rattle.dt_life.specs.declared.refusal.Refusal.{Refusal}
use Rattle.dt_life.specs.Acceptance.{is_close, IsAcceptedClose, IsAcceptedGo}

module _ (account : Account) (registry : Registry) (life : List Item) where
  abbrev now : SetUp
  now = set_up account registry life

  abbrev set_up_after : Result Ask Refusal → SetUp
  set_up_after line = set_up account registry (asked line ∷ life)

  -- Tracing begins by the line, with this.
  abbrev pub BeginsTracing : Result Ask Refusal → Tracing → Type 0
  BeginsTracing line tracing =
      IsAcceptedGo account registry life line × IsTracing account registry (happens account registry (since_then now []) began) tracing

  -- The change is the one that the line makes.
  abbrev pub Drafted : Result Ask Refusal → Change → Type 0
  Drafted line Uncounted = is_over life ≡ true
  Drafted line Counted = (is_over life ≡ false) × (set_up_after line ≡ now) × (is_close line ≡ false)
  Drafted line (Set options) =
      (is_over life ≡ false) × (phase account registry life ≡ Inactive)
      × (set_up_after line ≡ with_options now (form_of_options options)) × (is_close line ≡ false)
  Drafted line (Enable clauses new shapes room) =
      let forms = map form_of_clause clauses.items in
      let epid = next_epid account registry now in
      (is_over life ≡ false) × (phase account registry life ≡ Inactive) × (line ≡ Ok (enable (program forms)))
      × (is_enabled account registry (shapes_in now) epid forms ≡ true)
      × AreEcbs (now.clauses ++ forms) (added account registry epid forms) new.items
      × (shapes_of shapes ≡ shapes_in now ++ uses_of forms)
  Drafted line (Go tracing) = BeginsTracing line tracing.value
  Drafted line Stop = (is_over life ≡ false) × (phase account registry life ≡ Active) × (line ≡ Ok stop)
  Drafted line (Snap cpu) =
      (is_over life ≡ false) × (is_readable now (phase account registry life) ≡ true) × (line ≡ Ok (snap cpu))
      × (cpu < registry.cpus)
  Drafted line (Trunc aggregation) = (name : List ℕ)
      × (is_over life ≡ false) × (is_inactive (phase account registry life) ≡ false) × (line ≡ Ok (trunc name))
      × (aggregation_of (shapes_in now) name ≡ Some aggregation)
  Drafted line Close = IsAcceptedClose account registry life line

  -- A draft of a line: its reply is the definition's, and its change is the one that the line makes.
  pub record IsDraftOf (line : Result Ask Refusal) (draft : Draft) : Type 0 where
    pub replies : Replies account registry life line (answer_of draft.reply)
    pub makes : Drafted line draft.change

-- A change can be made of a consumer: clauses and ECBs find their room before tracing began, and tracing that begins knows
-- all clauses.
abbrev pub ChangeFits : Consumer → Change → Type 0
ChangeFits consumer (Enable clauses ecbs shapes room) =
    (consumer.tracing ≡ None) × (vec_len clauses ≤ vec_len ecbs)
    × (vec_len consumer.programs.ecbs + vec_len ecbs ≤ ecbs_max)
    × All (IsPlaced (vec_len consumer.programs.clauses + vec_len clauses)) ecbs.items
    × HasRoomFor room (vec_len consumer.programs.clauses + vec_len clauses) (vec_len consumer.programs.ecbs + vec_len ecbs)
ChangeFits consumer (Go tracing) = vec_len tracing.value.uses ≡ vec_len consumer.programs.clauses
ChangeFits consumer _ = Unit {0}

-- A draft can be applied to a consumer: `Consumer::draft` makes it so, and offers keep it so.
pub record CanApply (consumer : Consumer) (draft : Draft) : Type 0 where
  pub fits : ChangeFits consumer draft.change
