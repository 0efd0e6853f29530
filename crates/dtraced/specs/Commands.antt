-- How the commands of a service are written.
use Rattle.std.specs.Prelude.{◌≡◌, ℕ, ◌^◌, ◌<◌, List, ◌++◌, codes, decimal}
use Rattle.dtraced.specs.declared.command.ServiceCommand.{ServiceCommand}
use Rattle.dtraced.specs.declared.command.ServiceCommand.TheVariants.{Step, Quit}

-- The words stand one blank apart; a number is decimal, without a leading zero.
abbrev pub command_text : ServiceCommand → List ℕ
command_text (Step cpu count) = codes "step " ++ (decimal cpu ++ (codes " " ++ decimal count))
command_text Quit = codes "quit"

-- a processor and a count have numbers of 32 bits
abbrev pub IsWritableCommand : ServiceCommand → Type 0
IsWritableCommand (Step cpu count) = (cpu < 2 ^ 32) × (count < 2 ^ 32)
IsWritableCommand Quit = Unit {0}

-- The text is the line of this command.
pub record SpellsCommand (text : List ℕ) (command : ServiceCommand) : Type 0 where
  pub writable : IsWritableCommand command
  pub spelled : text ≡ command_text command
