-- Which step lines an input is, or at which line it is refused.
use Rattle.std.specs.Prelude.{◌≡◌, ℕ, ◌-◌, ◌<◌, ◌≤◌, Bool, true, false, List, [], ◌∷◌, length, take, map, filter}
use Rattle.std.specs.Prelude.{IsSome}
use Rattle.std.specs.List.{AllByRecursion}
use Rattle.dt_machine.specs.Registry.{Registry, account_of}
use Rattle.dt_proto.specs.Lines.{all_but_last, parts_of}
use Rattle.dt_world.specs.StepLine.{StepLineForm, open_line, look_line, offer_line, fire_line, step_line_text}
use Rattle.dt_world.specs.StepLine.{IsWritableStep}

-- what stands before each newline; what stands after the last one is no line
abbrev pub input_lines : List ℕ → List (List ℕ)
input_lines text = all_but_last (parts_of text)

abbrev pub is_written : List ℕ → Bool
is_written [] = false
is_written (byte ∷ line) = true

-- The step line is one on this machine: its account is one of the machine's, or its processor is.
abbrev pub IsLineOn : Registry → StepLineForm → Type 0
IsLineOn registry (open_line seat account) = IsSome (account_of registry account)
IsLineOn registry (look_line cpu) = cpu < registry.cpus
IsLineOn registry (offer_line cpu seat) = cpu < registry.cpus
IsLineOn registry (fire_line cpu) = cpu < registry.cpus
IsLineOn registry _ = Unit {0}

-- The lines that aren't empty are these step lines, in order.
pub record AreStepLines (registry : Registry) (lines : List (List ℕ)) (forms : List StepLineForm) : Type 0 where
  pub spelled : filter is_written lines ≡ map step_line_text forms
  pub writable : AllByRecursion IsWritableStep forms
  pub known : AllByRecursion (IsLineOn registry) forms

-- The n-th line is the first that is refused: the lines before it are step lines, and with it they are none.
pub record IsRefused (registry : Registry) (lines : List (List ℕ)) (n : ℕ) : Type 0 where
  pub some : 1 ≤ n
  pub within : n ≤ length lines
  pub before : (forms : List StepLineForm) × AreStepLines registry (take (n - 1) lines) forms
  pub none : (forms : List StepLineForm) → AreStepLines registry (take n lines) forms → ⊥
