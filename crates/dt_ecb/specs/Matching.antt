-- Which probes a clause takes effect on, and which are listed. Guide, Program Structure.
use Rattle.std.specs.Prelude.{ℕ, ◌&&◌, Bool, true, List, [], ◌∷◌, Option, None, filter}
use Rattle.std.specs.List.{list_any}
use Rattle.dt_names.specs.declared.tuple.ProbeTuple.{ProbeTuple}
use Rattle.dt_cred.specs.Rights as rights
use Rattle.dt_cred.specs.declared.account.Account.{Account}
use Rattle.dt_cred.specs.declared.account.Process.{Process}
use Rattle.dt_cred.specs.declared.class.Class.{Class}
use Rattle.dt_cred.specs.declared.class.Class.TheVariants.{Dtrace, Syscall, Profile, Pid, Other}
use Rattle.dt_cred.specs.declared.probe.Probe.{Probe}
use Rattle.dt_machine.specs.Registry.{Registry, process_of}
use Rattle.dt_glob.specs.PatternItem.{PatternItem}
use Rattle.dt_glob.specs.Test.{is_match}
use Rattle.dt_program.specs.Description.{DescForm}
use Rattle.dt_program.specs.Program.{ClauseForm}

-- an empty field asks for nothing, any other for the names that its pattern matches
abbrev pub field_asks_for : List PatternItem → List ℕ → Bool
field_asks_for [] name = true
field_asks_for (item ∷ items) name = is_match (item ∷ items) name

abbrev pub asks_for : DescForm → ProbeTuple → Bool
asks_for desc tuple =
    field_asks_for desc.provider tuple.provider && (field_asks_for desc.module tuple.module
    && (field_asks_for desc.function tuple.function && field_asks_for desc.name tuple.name))

-- the process that a `pid` provider traces
abbrev pub traced_process : Registry → Class → Option Process
traced_process registry (Pid pid) = process_of registry pid
traced_process registry Dtrace = None
traced_process registry Syscall = None
traced_process registry Profile = None
traced_process registry Other = None

module _ (account : Account) (registry : Registry) where
  -- the account may enable the probe
  abbrev pub is_allowed : Probe → Bool
  is_allowed probe = rights.may_enable account probe.class (traced_process registry probe.class)

  -- A probe matches a clause if the account may enable it and one of the descriptions asks for it.
  abbrev pub is_matched : ClauseForm → Probe → Bool
  is_matched clause probe = is_allowed probe && list_any (λ desc. asks_for desc probe.tuple) clause.descriptions

  -- A probe is listed for a description if the account may enable it and the description asks for it.
  abbrev pub is_listed : DescForm → Probe → Bool
  is_listed desc probe = is_allowed probe && asks_for desc probe.tuple

  -- the listed probes, by rising identifier
  abbrev pub listed : DescForm → List Probe
  listed desc = filter (is_listed desc) registry.probes

  -- each matched probe once, by rising identifier
  abbrev pub matched : ClauseForm → List Probe
  matched clause = filter (is_matched clause) registry.probes
