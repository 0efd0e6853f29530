-- The words that the program is called with.
use Rattle.std.specs.Prelude.{◌≡◌, ⊤, true, ℕ, List, [], Option, Some, None, codes}
use Rattle.clap.specs.Words.{App, Row, Rule, Text, fault_of, first_of, new_app, new_rule, subcommand_of, with_rule, with_subcommand}
use Rattle.clap.specs.declared.builder.action.ArgAction.TheVariants.{Set}
use Rattle.dtraced.specs.Seat.{SpellsSeat}
use Rattle.dtraced.specs.declared.words.Words.{Words}
use Rattle.dtraced.specs.declared.words.Words.TheVariants.{Replay, Check, Serve, Send}

-- The word of a file or a folder, which must be there.
abbrev pub file : Text → Rule
file id = record (new_rule id) { required = true; action = Some Set }

-- --trail <seat>
abbrev pub trail_option : Rule
trail_option = record (new_rule (codes "trail")) { long = Some (codes "trail"); action = Some Set }

-- replay <machine> [--trail <seat>]
abbrev pub replay_command : App
replay_command = with_rule (with_rule (new_app (codes "replay")) (file (codes "machine"))) trail_option

-- check <machine> <trail>
abbrev pub check_command : App
check_command = with_rule (with_rule (new_app (codes "check")) (file (codes "machine"))) (file (codes "trail"))

-- serve <machine> <folder>
abbrev pub serve_command : App
serve_command = with_rule (with_rule (new_app (codes "serve")) (file (codes "machine"))) (file (codes "folder"))

-- send <path>
abbrev pub send_command : App
send_command = with_rule (new_app (codes "send")) (file (codes "path"))

-- The program's command, as clap's definitions speak of one: `dtraced` with these four.
abbrev pub program : App
program = with_subcommand (with_subcommand (with_subcommand (with_subcommand (new_app (codes "dtraced"))
    replay_command.top) check_command.top) serve_command.top) send_command.top

-- The seat is the one that the word spells; without a word there is none.
abbrev pub IsSeatOf : Option Text → Option ℕ → Type 0
IsSeatOf None None = ⊤
IsSeatOf None (Some seat) = ⊥
IsSeatOf (Some word) None = ⊥
IsSeatOf (Some word) (Some seat) = SpellsSeat word seat

-- The subcommand that asks for it.
abbrev pub subcommand_name : Words → Text
subcommand_name (Replay machine trail) = codes "replay"
subcommand_name (Check machine trail) = codes "check"
subcommand_name (Serve machine folder) = codes "serve"
subcommand_name (Send path) = codes "send"

-- These are the values of the subcommand's arguments.
abbrev pub HasValues : List Row → Words → Type 0
HasValues given (Replay machine trail) =
    (first_of (codes "machine") given ≡ Some machine.now) × IsSeatOf (first_of (codes "trail") given) trail
HasValues given (Check machine trail) =
    (first_of (codes "machine") given ≡ Some machine.now) × (first_of (codes "trail") given ≡ Some trail.now)
HasValues given (Serve machine folder) =
    (first_of (codes "machine") given ≡ Some machine.now) × (first_of (codes "folder") given ≡ Some folder.now)
HasValues given (Send path) = first_of (codes "path") given ≡ Some path.now

-- The words, of which the first is the program's own name, ask for this: clap finds no fault with them, and they name the
-- subcommand and give its arguments the values.
pub record Asks (words : List Text) (asked : Words) : Type 0 where
  pub faultless : fault_of program words ≡ []
  pub given : List Row
  pub named : subcommand_of program words ≡ Some (subcommand_name asked, given)
  pub values : HasValues given asked
