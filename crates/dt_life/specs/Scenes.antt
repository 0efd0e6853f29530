-- Lives on a machine that a text describes, lives within bounds, and what a taking leaves by the layout of its clause.
use Rattle.std.specs.Prelude.{◌≡◌, ℕ, ◌<◌, ◌≤◌, ◌^◌, List, Some, Result, Ok, IfSome}
use Rattle.std.specs.List.{AllByRecursion}
use Rattle.dt_cred.specs.declared.account.Account.{Account}
use Rattle.dt_cred.specs.declared.firing.Firing.{Firing}
use Rattle.dt_lang.specs.Reads.{Reading, Reads, program}
use Rattle.dt_machine.specs.Bounds.{IsProcessInBounds, IsProbeInBounds, IsFiringInBounds}
use Rattle.dt_machine.specs.Registry.{Contents, Registry, account_of, process_of, probe_of, firing_at}
use Rattle.dt_program.specs.Written.{IsWrittenProgram}
use Rattle.dt_record.specs.Layout.{layout_of}
use Rattle.dt_record.specs.Showing.{FitLayout}
use Rattle.dt_speculation.specs.Limits.{nspec_max}
use Rattle.dt_life.specs.Ask.{Ask, enable, option}
use Rattle.dt_life.specs.Life.{Item, asked, fired}
use Rattle.dt_life.specs.Options.{Setting, number_set, policy, speculations}
use Rattle.dt_life.specs.Takings.{Taking, left_by}
use Rattle.dt_life.specs.declared.refusal.Refusal.{Refusal}

-- the firing stands in one of the scripts
abbrev pub IsScripted : List (List Firing) → Firing → Type 0
IsScripted scripts firing = (cpu : ℕ) × (place : ℕ) × (firing_at scripts cpu place ≡ Some firing)

-- a setting is of a policy, or what a name and a number set
abbrev pub MayBeSet : Setting → Type 0
MayBeSet (policy p) = Unit {0}
MayBeSet setting = (name : List ℕ) × (n : ℕ) × (number_set name n ≡ Some setting)

-- what is read of a program is the reading of some text, and a setting may be set
abbrev pub MayBeAsked : Result Ask Refusal → Type 0
MayBeAsked (Ok (enable reading)) = (text : List ℕ) × Reads text reading
MayBeAsked (Ok (option setting)) = IfSome setting MayBeSet
MayBeAsked _ = Unit {0}

-- what may reach a consumer: what a line asks for, or a firing of a script
abbrev pub MayReach : List (List Firing) → Item → Type 0
MayReach scripts (asked line) = MayBeAsked line
MayReach scripts (fired firing) = IsScripted scripts firing

-- a life on a machine, of one of its accounts
pub record IsLifeOn (contents : Contents) (account : Account) (life : List Item) : Type 0 where
  pub name : List ℕ
  pub known : account_of contents.registry name ≡ Some account
  pub reached : AllByRecursion (MayReach contents.scripts) life

-- the program that was read can be written, if it is one
abbrev pub IsReadingInBounds : Reading → Type 0
IsReadingInBounds (program clauses) = IsWrittenProgram clauses
IsReadingInBounds _ = Unit {0}

-- no more speculations are set than there may be
abbrev pub IsSettingInBounds : Setting → Type 0
IsSettingInBounds (speculations n) = n ≤ nspec_max
IsSettingInBounds _ = Unit {0}

abbrev pub IsItemInBounds : Item → Type 0
IsItemInBounds (asked (Ok (enable reading))) = IsReadingInBounds reading
IsItemInBounds (asked (Ok (option setting))) = IfSome setting IsSettingInBounds
IsItemInBounds (asked _) = Unit {0}
IsItemInBounds (fired firing) = IsFiringInBounds firing

-- A life within bounds: the machine's processes and probes, the firings, the programs and the settings are.
pub record IsLifeInBounds (account : Account) (registry : Registry) (life : List Item) : Type 0 where
  pub uid : account.uid < 2 ^ 32
  pub processes : (pid : ℕ) → IfSome (process_of registry pid) IsProcessInBounds
  pub probes : (id : ℕ) → IfSome (probe_of registry id) IsProbeInBounds
  pub items : AllByRecursion IsItemInBounds life

-- What a taking left, if anything, fits the layout of its clause: a record with its EPID and the values that the clause
-- shows of the scene, each of its field, and as long as the layout says; or there is neither a layout nor a record.
abbrev pub IsOfLayout : Taking → Type 0
IsOfLayout t = IfSome (left_by t)
    (λ left. FitLayout t.ecb.epid t.scene t.past t.ecb.clause (layout_of t.ecb.clause) left.record_bytes)
