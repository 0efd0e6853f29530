-- The numbers and the names of refusals on the wire, and which refusal a line that is no command has.
use Rattle.std.specs.Prelude.{ℕ, List, Option, Some, None, codes}
use Rattle.dt_lang.specs.Fault.{why_of}
use Rattle.dt_lang.specs.declared.fault.LangFault.{LangFault}
use Rattle.dt_lang.specs.declared.fault.LangFault.TheVariants as fault
use Rattle.dt_life.specs.declared.refusal.Refusal.{Refusal}
use Rattle.dt_life.specs.declared.refusal.Refusal.TheVariants.{Json, Request, LineLong, Program, NoMatch, Privilege}
use Rattle.dt_life.specs.declared.refusal.Refusal.TheVariants.{Destructive, AggClash, Limit, Busy, NoCpu, NoAgg, NoEpid}
use Rattle.dt_life.specs.declared.refusal.Refusal.TheVariants.{Quota, Memory}
use Rattle.dt_life.specs.declared.refusal.Refusal.TheVariants as refusal

-- What a line is refused for that is no command: it is no JSON, no request, or too long. Every other refusal is one
-- of a command.
abbrev pub IsNoCommand : Refusal → Type 0
IsNoCommand Json = Unit {0}
IsNoCommand Request = Unit {0}
IsNoCommand LineLong = Unit {0}
IsNoCommand _ = ⊥

-- for what a text is refused that is no program
abbrev pub refused_as : LangFault → Option Refusal
refused_as (fault.Program at end flaw) = Some (Program at (why_of flaw))
refused_as (fault.Destructive at end what) = Some (Destructive at what)
refused_as fault.Memory = None

abbrev pub refusal_number : Refusal → ℕ
refusal_number Json = 1
refusal_number Request = 2
refusal_number LineLong = 3
refusal_number (Program at why) = 4
refusal_number (NoMatch clause) = 5
refusal_number (Privilege clause what) = 6
refusal_number (Destructive at what) = 7
refusal_number (AggClash what) = 8
refusal_number Limit = 9
refusal_number Busy = 10
refusal_number refusal.Option = 11
refusal_number NoCpu = 12
refusal_number NoAgg = 13
refusal_number NoEpid = 14
refusal_number Quota = 15
refusal_number Memory = 16

abbrev pub refusal_name : Refusal → List ℕ
refusal_name Json = codes "Json"
refusal_name Request = codes "Request"
refusal_name LineLong = codes "LineLong"
refusal_name (Program at why) = codes "Program"
refusal_name (NoMatch clause) = codes "NoMatch"
refusal_name (Privilege clause what) = codes "Privilege"
refusal_name (Destructive at what) = codes "Destructive"
refusal_name (AggClash what) = codes "AggClash"
refusal_name Limit = codes "Limit"
refusal_name Busy = codes "Busy"
refusal_name refusal.Option = codes "Option"
refusal_name NoCpu = codes "NoCpu"
refusal_name NoAgg = codes "NoAgg"
refusal_name NoEpid = codes "NoEpid"
refusal_name Quota = codes "Quota"
refusal_name Memory = codes "Memory"
