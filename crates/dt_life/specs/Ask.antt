-- What is asked by a line: a function of its bytes.
use Rattle.std.specs.Prelude.{ℕ, List, Option, Result, Ok, Err}
use Rattle.std.specs.String.{string_bytes}
use Rattle.dt_lang.specs.Description.{DescForm, ReadsDescription}
use Rattle.dt_program.specs.declared.description.DescriptionFault.{DescriptionFault}
use Rattle.dt_program.specs.laws.SomeDescription.{some_description}
use Rattle.dt_lang.specs.Reads.{Reading, Reads}
use Rattle.dt_lang.specs.laws.SomeReading.{some_reading}
use Rattle.dt_life.specs.declared.command.Command.{Command}
use Rattle.dt_life.specs.declared.command.Command.TheVariants.{Option as SetOption, Enable, Go, Stop, Snap, Agg, Trunc}
use Rattle.dt_life.specs.declared.command.Command.TheVariants.{Status, List as ListOf, Describe, Close}
use Rattle.dt_life.specs.declared.refusal.Refusal.{Refusal}
use Rattle.dt_life.specs.Options.{Setting, setting_of}

-- The reading of a text as a program: that it has one is a law, and which one is the law's witness.
pub reading_of : List ℕ → Reading
reading_of text = (some_reading text).0

pub is_read : (text : List ℕ) → Reads text (reading_of text)
unfolding reading_of
is_read text = (some_reading text).1

-- the same of a text as a description
pub description_of : List ℕ → Result DescForm DescriptionFault
description_of text = (some_description text).0

pub is_described : (text : List ℕ) → ReadsDescription text (description_of text)
unfolding description_of
is_described text = (some_description text).1

-- a command, with what it sets, or with the reading of its program or its description
pub data Ask : Type 0 where
  option : Option Setting → Ask
  enable : Reading → Ask
  go : Ask
  stop : Ask
  snap : (cpu : ℕ) → Ask
  agg : (name : List ℕ) → Ask
  trunc : (name : List ℕ) → Ask
  status : Ask
  list : Result DescForm DescriptionFault → Ask
  describe : (epid : ℕ) → Ask
  close : Ask

-- what a command asks for
abbrev pub ask_of : Command → Ask
ask_of (SetOption name value) = option (setting_of (string_bytes name) value)
ask_of (Enable text) = enable (reading_of (string_bytes text))
ask_of Go = go
ask_of Stop = stop
ask_of (Snap cpu) = snap cpu
ask_of (Agg name) = agg (string_bytes name)
ask_of (Trunc name) = trunc (string_bytes name)
ask_of Status = status
ask_of (ListOf probe) = list (description_of (string_bytes probe))
ask_of (Describe epid) = describe epid
ask_of Close = close

-- what a line asks for: a command for what it asks, and one that is no command for its refusal
abbrev pub line_asks : Result Command Refusal → Result Ask Refusal
line_asks (Ok command) = Ok (ask_of command)
line_asks (Err refusal) = Err refusal
