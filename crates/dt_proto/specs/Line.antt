-- What a consumer asks for by a line.
use Rattle.std.specs.Prelude.{ℕ, List, codes, bytes_eq, if◌then◌else◌, Option, Some, None, option_map, option_and_then}
use Rattle.std.specs.Prelude.{ok_or, Result, Ok, Err}
use Rattle.std.specs.Str.{is_utf8}
use Rattle.std.specs.String.{string_bytes}
use Rattle.serde_json.specs.Data.{Data, number, unsigned, string}
use Rattle.serde_json.specs.Read.{read}
use Rattle.serde_json.specs.Find.{get, as_str, as_number, as_u64}
use Rattle.dt_life.specs.Ask.{Ask, option, enable, go, stop, snap, agg, trunc, status, list, describe, close}
use Rattle.dt_life.specs.Ask.{reading_of, description_of}
use Rattle.dt_life.specs.Options.{Setting, policy, number_set, policy_of}
use Rattle.dt_proto.specs.Lines.{LineForm, short_line, long_line}
use Rattle.dt_life.specs.declared.command.Command.{Command}
use Rattle.dt_life.specs.declared.command.Command.TheVariants.{Option as SetOption, Enable, Go, Stop, Snap, Agg, Trunc}
use Rattle.dt_life.specs.declared.command.Command.TheVariants.{Status, List as ListOf, Describe, Close}
use Rattle.dt_life.specs.declared.command.OptionValue.{OptionValue}
use Rattle.dt_life.specs.declared.command.OptionValue.TheVariants.{Number, Text, Other}
use Rattle.dt_life.specs.declared.refusal.Refusal.{Refusal}
use Rattle.dt_life.specs.declared.refusal.Refusal.TheVariants.{Json, Request as NoRequest, LineLong}

-- a value that a line gives for an option: a number from 0 on, a text, or anything else
pub data GivenValue : Type 0 where
  of_number : ℕ → GivenValue
  of_text : List ℕ → GivenValue
  of_another : GivenValue

-- what a line says, before a program is read in it
pub data Request : Type 0 where
  to_set : (name : List ℕ) → GivenValue → Request
  to_enable : (text : List ℕ) → Request
  to_go : Request
  to_stop : Request
  to_snap : (cpu : ℕ) → Request
  to_agg : (name : List ℕ) → Request
  to_trunc : (name : List ℕ) → Request
  to_status : Request
  to_list : (probe : List ℕ) → Request
  to_describe : (epid : ℕ) → Request
  to_close : Request

-- a value without where its text lies in memory
abbrev pub value_of : OptionValue → GivenValue
value_of (Number n) = of_number n
value_of (Text text) = of_text (string_bytes text)
value_of Other = of_another

-- a command without where its texts lie in memory
abbrev pub request_of : Command → Request
request_of (SetOption name value) = to_set (string_bytes name) (value_of value)
request_of (Enable text) = to_enable (string_bytes text)
request_of Go = to_go
request_of Stop = to_stop
request_of (Snap cpu) = to_snap cpu
request_of (Agg name) = to_agg (string_bytes name)
request_of (Trunc name) = to_trunc (string_bytes name)
request_of Status = to_status
request_of (ListOf probe) = to_list (string_bytes probe)
request_of (Describe epid) = to_describe epid
request_of Close = to_close

-- the text of an object's field, where it is one
abbrev pub field_text : List ℕ → Data → Option (List ℕ)
field_text key d = option_and_then as_str (get key d)

-- the number of an object's field, where it is one of 64 bits without a sign
abbrev pub field_number : List ℕ → Data → Option ℕ
field_number key d = option_and_then as_u64 (option_and_then as_number (get key d))

-- The value that a JSON value is: a number without a sign and a fraction, which fits 64 bits, a text, or another. A
-- negative number, one with a fraction or an exponent, a truth value, null, a list and an object are others.
abbrev pub value_in : Data → GivenValue
value_in (number (unsigned n)) = of_number n
value_in (string text) = of_text text
value_in _ = of_another

-- what `option` asks for: its field `value` may be of any kind, but must be there
abbrev pub option_request : Data → Option Request
option_request d = option_and_then
    (λ name. option_map (λ value. to_set name (value_in value)) (get (codes "value") d)) (field_text (codes "name") d)

-- what the command of this name asks for; None where there is no such command, or a field of it is missing or of
-- another kind
abbrev pub named_request : List ℕ → Data → Option Request
named_request name d =
    if bytes_eq name (codes "option") then option_request d
    else if bytes_eq name (codes "enable") then option_map to_enable (field_text (codes "text") d)
    else if bytes_eq name (codes "go") then Some to_go
    else if bytes_eq name (codes "stop") then Some to_stop
    else if bytes_eq name (codes "snap") then option_map to_snap (field_number (codes "cpu") d)
    else if bytes_eq name (codes "agg") then option_map to_agg (field_text (codes "name") d)
    else if bytes_eq name (codes "trunc") then option_map to_trunc (field_text (codes "name") d)
    else if bytes_eq name (codes "status") then Some to_status
    else if bytes_eq name (codes "list") then option_map to_list (field_text (codes "probe") d)
    else if bytes_eq name (codes "describe") then option_map to_describe (field_number (codes "epid") d)
    else if bytes_eq name (codes "close") then Some to_close
    else None

-- what a JSON value asks for: its field `cmd` names the command
abbrev pub requested_by : Data → Result Request Refusal
requested_by d = ok_or (option_and_then (λ name. named_request name d) (field_text (codes "cmd") d)) NoRequest

abbrev pub requested_or_no_json : Option Data → Result Request Refusal
requested_or_no_json None = Err Json
requested_or_no_json (Some d) = requested_by d

-- what the bytes of a line say, or why they are refused
abbrev pub requested : List ℕ → Result Request Refusal
requested line = requested_or_no_json (if is_utf8 line then read line else None)

-- what a name and a value set, as a consumer says of a command's: nothing where there is no such option, or the value
-- isn't one of it
abbrev pub setting_by : List ℕ → GivenValue → Option Setting
setting_by name (of_number n) = number_set name n
setting_by name (of_text word) =
    if bytes_eq name (codes "bufpolicy") then option_map policy (policy_of word) else None
setting_by name of_another = None

-- what a request asks of a consumer: its program or its description is the one that its text is read as
abbrev pub asked_by : Request → Ask
asked_by (to_set name value) = option (setting_by name value)
asked_by (to_enable text) = enable (reading_of text)
asked_by to_go = go
asked_by to_stop = stop
asked_by (to_snap cpu) = snap cpu
asked_by (to_agg name) = agg name
asked_by (to_trunc name) = trunc name
asked_by to_status = status
asked_by (to_list probe) = list (description_of probe)
asked_by (to_describe epid) = describe epid
asked_by to_close = close

-- the same of what a line says, or why it is refused
abbrev pub asked_or_refused : Result Request Refusal → Result Ask Refusal
asked_or_refused (Ok request) = Ok (asked_by request)
asked_or_refused (Err refusal) = Err refusal

-- What a line asks of a consumer, or why it is refused: a long one is refused as such, whatever its bytes.
abbrev pub ask_in : LineForm → Result Ask Refusal
ask_in (short_line bytes) = asked_or_refused (requested bytes)
ask_in long_line = Err LineLong
