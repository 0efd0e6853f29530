-- What a replay writes, and why it fails: from the bytes of a machine file and of an input to those that are written.
use Rattle.std.specs.Prelude.{◌≡◌, ◌≢◌, ℕ, List, Option, Result, IfErr, IfSome, OnOk, take}
use Rattle.std.specs.Io.KnownBytes.{Appends, Keeps}
use Rattle.dt_machine.specs.Reading.{IsDescribed, IsFaultOf, NowhereIfMemory, UnlessMemory}
use Rattle.dt_machine.specs.Registry.{Contents}
use Rattle.dt_machine.specs.declared.fault.MachineFault.{MachineFault}
use Rattle.dt_world.specs.Faults.{IsOfMachine}
use Rattle.dt_world.specs.Input.{input_lines, IsRefused}
use Rattle.dt_world.specs.declared.replays.ReplayFault.{ReplayFault}
use Rattle.dt_world.specs.declared.replays.ReplayFault.TheVariants.{Machine, Line, Write}

-- `IsWanted` says which text an input has to be answered with on a machine. The machine file is given by its bytes, and the
-- input and what is written by theirs, where those are known.
module _ (IsWanted : Contents → (text output : List ℕ) → Type 0) (file : List ℕ) (input before after : Option (List ℕ)) where
  -- What is written is what the definition gives to what was read.
  abbrev pub HasReplayed : Type 0
  HasReplayed = IfSome input (λ text.
      (contents : Contents) × (output : List ℕ) × IsDescribed file contents × IsWanted contents text output
      × Appends before after output)

  pub record HasFailed (fault : ReplayFault) : Type 0 where
    -- The machine file is tested first: it is named where it is refused. Every other fault comes after it was read.
    pub machine : (refused : MachineFault) → fault ≡ Machine refused
        → NowhereIfMemory refused × UnlessMemory refused (IsFaultOf file refused)
    pub described : (IsOfMachine fault → ⊥) → (contents : Contents) × IsDescribed file contents
    -- A line is named where it is the first that is refused.
    pub line : (n : ℕ) → fault ≡ Line n → IfSome input (λ text.
        (contents : Contents) × IsDescribed file contents × IsRefused contents.registry (input_lines text) n)
    -- Only a write that fails leaves anything written: a beginning of what would have been.
    pub nothing_written : fault ≢ Write → Keeps before after
    pub beginning_written : fault ≡ Write → IfSome input (λ text.
        (contents : Contents) × (output : List ℕ) × (count : ℕ) × IsDescribed file contents
        × IsWanted contents text output × Appends before after (take count output))

-- How a replay of a machine file ends that has this result, by its reader and its writer before it and after it. What the
-- reader still has, and what the writer has taken, is known of some.
module _ {R W : Type 0} (remaining : R → Option (List ℕ)) (contents : W → Option (List ℕ)) where
  pub record IsReplayed (IsWanted : Contents → (text output : List ℕ) → Type 0) (file : List ℕ)
      (reader reader_after : R) (writer writer_after : W) (result : Result (Unit {0}) ReplayFault) : Type 0 where
    -- What is written is what the definition gives to what was read.
    pub ok : OnOk result (HasReplayed IsWanted file (remaining reader) (contents writer) (contents writer_after))
    pub err : IfErr result (HasFailed IsWanted file (remaining reader) (contents writer) (contents writer_after))
    -- Where the machine file is refused, nothing was read.
    pub unread : IfErr result (λ fault. IsOfMachine fault → reader_after ≡ reader)
    -- On any fault but a failed write the writer wasn't even asked: one that fails is never told as a lack of memory.
    pub untouched : IfErr result (λ fault. fault ≢ Write → writer_after ≡ writer)
