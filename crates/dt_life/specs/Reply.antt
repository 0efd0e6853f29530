-- What a consumer answers to a line, given its life before it.
use Rattle.std.specs.Prelude.{◌≡◌, ℕ, ◌==◌, Bool, true, not, List, [], ◌∷◌, Option, Some, None, Result, Ok, Err}
use Rattle.std.specs.Prelude.{length, map, find, is_none, nat_le, option_and_then, MatchOption, MatchBool}
use Rattle.std.specs.Prelude.{if◌then◌else◌}
use Rattle.dt_aggstore.specs.TableOf.{table_of}
use Rattle.std.specs.List.{range_with_len}
use Rattle.std.specs.Option.{option_map}
use Rattle.dt_aggstore.specs.declared.key.Aggregation.{Aggregation}
use Rattle.dt_buffer.specs.Shows.{Shows}
use Rattle.dt_cred.specs.declared.account.Account.{Account}
use Rattle.dt_cred.specs.declared.probe.Probe.{Probe as AProbe}
use Rattle.dt_machine.specs.Registry.{Registry, probe_of}
use Rattle.dt_lang.specs.Reads.{program, fault, destructive}
use Rattle.dt_lang.specs.declared.fault.Why.TheVariants.{Probe}
use Rattle.dt_record.specs.Layout.{layout_of}
use Rattle.dt_ecb.specs.Ecbs.{EcbForm, added}
use Rattle.dt_ecb.specs.Enable.{EnableVerdict, privilege, clash, unmatched, limit, IsVerdict}
use Rattle.dt_ecb.specs.Enable as enabling
use Rattle.dt_ecb.specs.Matching as matching
use Rattle.dt_ecb.specs.declared.fault.RestrictedAction.TheVariants.{Stack}
use Rattle.dt_life.specs.Answer as answers
use Rattle.dt_life.specs.Answer.{Answer, done, enabled, snapped, aggregated, listed, described, refused}
use Rattle.dt_life.specs.Aggregations.{aggregation_of}
use Rattle.dt_life.specs.Ask.{Ask, option, enable, go, stop, snap, agg, trunc, status, list, describe, close}
use Rattle.dt_life.specs.Buffers.{errors, past}
use Rattle.dt_life.specs.Life.{Item, SetUp, seen_count, is_over, set_up, next_epid, phase, is_active, is_inactive}
use Rattle.dt_life.specs.Life.{is_readable, has_room, ecbs, shapes_in}
use Rattle.dt_life.specs.Stores.{aggdrops_in, stores_in}
use Rattle.dt_life.specs.Variables.{dyndrops_in, specdrops_in, specfails_in}
use Rattle.dt_life.specs.declared.refusal.Refusal.{Refusal}
use Rattle.dt_life.specs.declared.refusal.Refusal.TheVariants.{Program, NoMatch, Privilege, Destructive, AggClash}
use Rattle.dt_life.specs.declared.refusal.Refusal.TheVariants.{Limit, Busy, NoCpu, NoAgg, NoEpid, Quota}
use Rattle.dt_life.specs.declared.refusal.Refusal.TheVariants as refusal

-- for what a program is refused, if it is
abbrev pub refusal_of : EnableVerdict → Option Refusal
refusal_of enabling.enabled = None
refusal_of (privilege clause) = Some (Privilege clause Stack)
refusal_of (clash name) = Some (AggClash name)
refusal_of (unmatched clause) = Some (NoMatch clause)
refusal_of limit = Some Limit

-- the refusal of the first cause that holds, if one does
abbrev pub first_refusal : List (Bool × Refusal) → Option Refusal
first_refusal [] = None
first_refusal (cause ∷ later) = if cause.0 then Some cause.1 else first_refusal later

module _ (account : Account) (registry : Registry) (life : List Item) where
  abbrev now : SetUp
  now = set_up account registry life

  -- after tracing began
  abbrev pub is_asked_late : Bool
  is_asked_late = not (is_inactive (phase account registry life))

  -- how many firings were seen
  abbrev pub seen_firings : ℕ
  seen_firings = seen_count now.since

  -- a processor's errors, one number for each
  abbrev pub all_errors : List ℕ
  all_errors = map (errors account registry life) (range_with_len 0 registry.cpus)

  -- the contributions that each processor's store doesn't keep
  abbrev pub all_aggdrops : List ℕ
  all_aggdrops = map (aggdrops_in account registry now) (range_with_len 0 registry.cpus)

  -- the assignments and the speculated records that each processor dropped
  abbrev pub all_dyndrops : List ℕ
  all_dyndrops = map (dyndrops_in account registry now) (range_with_len 0 registry.cpus)

  abbrev pub all_specdrops : List ℕ
  all_specdrops = map (specdrops_in account registry now) (range_with_len 0 registry.cpus)

  -- the aggregation of a name, where an accepted program uses one
  abbrev pub known : List ℕ → Option Aggregation
  known name = aggregation_of (shapes_in now) name

  -- the ECB of a number, with its probe
  abbrev pub ecb_of : ℕ → Option (AProbe × EcbForm)
  ecb_of epid = option_and_then
      (λ (ecb : EcbForm). option_map (λ probe. (probe, ecb)) (probe_of registry ecb.probe))
      (find (λ (ecb : EcbForm). ecb.epid == epid) (ecbs account registry life))

  -- For what a command is refused, each condition with its refusal, in the order in which they count. What a program that
  -- is read asks for is judged besides, after these.
  abbrev pub causes : Ask → List (Bool × Refusal)
  causes (option setting) = (is_asked_late, Busy) ∷ (is_none setting, refusal.Option) ∷ []
  causes (enable (program clauses)) = (is_asked_late, Busy) ∷ []
  causes (enable (fault at why)) = (is_asked_late, Busy) ∷ (true, Program at why) ∷ []
  causes (enable (destructive at what)) = (is_asked_late, Busy) ∷ (true, Destructive at what) ∷ []
  causes go = (is_asked_late, Busy) ∷ (not (has_room account registry now), Limit) ∷ []
  causes stop = (not (is_active (phase account registry life)), Busy) ∷ []
  causes (snap cpu) =
      (nat_le registry.cpus cpu, NoCpu) ∷ (not (is_readable now (phase account registry life)), Busy) ∷ []
  causes (agg name) = (is_none (known name), NoAgg) ∷ []
  causes (trunc name) = (is_none (known name), NoAgg) ∷ []
  causes status = []
  causes (list (Err wrong)) = (true, Program 0 Probe) ∷ []
  causes (list (Ok desc)) = []
  causes (describe epid) = (is_none (ecb_of epid), NoEpid) ∷ []
  causes close = []

  -- What becomes of a command: it is refused for the first of its causes that holds, or accepted (None) where none does. A program
  -- for which none holds has the verdict on what it asks for.
  abbrev pub IsVerdictOnCommand : Ask → Option Refusal → Type 0
  IsVerdictOnCommand (enable (program clauses)) verdict =
      MatchOption (first_refusal (causes (enable (program clauses))))
      ((v : EnableVerdict) × IsVerdict account registry (shapes_in now) (next_epid account registry now) clauses v
      × (verdict ≡ refusal_of v)) (λ refusal. verdict ≡ Some refusal)
  IsVerdictOnCommand ask verdict = verdict ≡ first_refusal (causes ask)

  -- the answer to an accepted command
  abbrev pub Accepted : Ask → Answer → Type 0
  Accepted (option setting) answer = answer ≡ done
  Accepted (enable (program clauses)) answer =
      answer ≡ enabled (length (added account registry (next_epid account registry now) clauses))
      (next_epid account registry now)
  Accepted (enable (fault at why)) answer = ⊥
  Accepted (enable (destructive at what)) answer = ⊥
  Accepted go answer = answer ≡ done
  Accepted stop answer = answer ≡ done
  Accepted (snap cpu) answer =
      (bytes : List ℕ) × (drops : ℕ) × (filled : Bool) × Shows (past account registry life cpu) bytes drops filled
      × (answer ≡ snapped cpu bytes drops filled)
  Accepted (agg name) answer = MatchOption (known name) ⊥
      (λ a. answer ≡ aggregated name a.function (table_of (stores_in account registry now) a))
  Accepted (trunc name) answer = answer ≡ done
  Accepted status answer =
      answer ≡ answers.status (phase account registry life) seen_firings all_errors all_aggdrops all_dyndrops all_specdrops
      (specfails_in account registry now)
  Accepted (list (Err wrong)) answer = ⊥
  Accepted (list (Ok desc)) answer = answer ≡ listed (matching.listed account registry desc)
  Accepted (describe epid) answer = MatchOption (ecb_of epid) ⊥
      (λ found. answer ≡ described epid found.0 (layout_of found.1.clause))
  Accepted close answer = answer ≡ done

  abbrev pub RepliesInQuota : Result Ask Refusal → Answer → Type 0
  RepliesInQuota (Err refusal) answer = answer ≡ refused refusal
  RepliesInQuota (Ok ask) answer =
      (verdict : Option Refusal) × IsVerdictOnCommand ask verdict
      × MatchOption verdict (Accepted ask answer) (λ refusal. answer ≡ refused refusal)

  -- The reply: over the quota its refusal, whatever was asked; else the line's own refusal, or the command's, or the
  -- answer to an accepted command.
  abbrev pub Replies : Result Ask Refusal → Answer → Type 0
  Replies line answer = MatchBool (is_over life) (answer ≡ refused Quota) (RepliesInQuota line answer)
