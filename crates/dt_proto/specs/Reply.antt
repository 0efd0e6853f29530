-- The line that a consumer is answered: JSON with the keys in the order of their bytes and no blanks.
use Rattle.std.specs.Prelude.{ℕ, List, [], ◌∷◌, ◌++◌, Option, Some, unwrap_or, true, codes, decimal, map}
use Rattle.std.specs.List.{join_with_byte}
use Rattle.hex.specs.Hex.{encode_lower}
use Rattle.serde_json.specs.Data.{Data, null, boolean, string, array, object, Members, no_members, member}
use Rattle.serde_json.specs.View.{items_of}
use Rattle.serde_json.specs.Written.{compact_text}
use Rattle.dt_cred.specs.declared.probe.Probe.{Probe}
use Rattle.dt_names.specs.Bytes.{newline, comma, colon}
use Rattle.dt_names.specs.declared.tuple.ProbeTuple.{ProbeTuple}
use Rattle.dt_lang.specs.Fault.{why_word}
use Rattle.dt_lang.specs.Word.{name_of_destructive}
use Rattle.dt_ecb.specs.Fault.{action_word as word_of_action}
use Rattle.dt_record.specs.Layout.{FieldForm, field_word, layout_size}
use Rattle.dt_life.specs.Phase.{phase_word, cause_word}
use Rattle.dt_life.specs.Refusal.{refusal_number, refusal_name}
use Rattle.dt_life.specs.Answer.{Answer, done, enabled, snapped, aggregated, status, listed, described, refused}
use Rattle.dt_life.specs.declared.phase.Phase.{Phase}
use Rattle.dt_life.specs.declared.phase.Phase.TheVariants.{Stopped}
use Rattle.dt_life.specs.declared.phase.End.TheVariants.{Exit}
use Rattle.dt_life.specs.declared.refusal.Refusal.{Refusal}
use Rattle.dt_life.specs.declared.refusal.Refusal.TheVariants.{Program, Privilege, Destructive, AggClash, NoMatch}
use Rattle.dt_proto.specs.Rows.{function_word, row_data}
use Rattle.dt_proto.specs.Scalars.{characters, of_number, of_signed}

-- a refusal's number and name, and the keys after them
abbrev pub coded : Refusal → Members → Members
coded refusal more =
    member (codes "error") (of_number (refusal_number refusal))
    (member (codes "name") (string (refusal_name refusal)) more)

-- A refusal of a text says where and why, one of a clause says which, and one of an action or an aggregation names it; any
-- other has its number and name alone.
abbrev pub refusal_members : Refusal → Members
refusal_members (Program at why) =
    member (codes "at") (of_number at) (coded (Program at why) (member (codes "why") (string (why_word why))
    no_members))
refusal_members (Privilege clause what) = member (codes "clause") (of_number clause)
    (coded (Privilege clause what) (member (codes "what") (string (word_of_action what)) no_members))
refusal_members (Destructive at what) = member (codes "at") (of_number at)
    (coded (Destructive at what) (member (codes "what") (string (name_of_destructive what)) no_members))
refusal_members (AggClash what) = coded (AggClash what) (member (codes "what") (string (characters what)) no_members)
refusal_members (NoMatch clause) = member (codes "clause") (of_number clause) (coded (NoMatch clause) no_members)
refusal_members refusal = coded refusal no_members

-- the last key of what is no refusal, and the keys after it
abbrev pub ok_and : Members → Members
ok_and more = member (codes "ok") (boolean true) more

-- a probe's four names with colons between them
abbrev pub tuple_text : ProbeTuple → List ℕ
tuple_text tuple = join_with_byte colon (tuple.provider ∷ tuple.module ∷ tuple.function ∷ tuple.name ∷ [])

abbrev pub probe_data : Probe → Data
probe_data probe = object (member (codes "id") (of_number probe.id) (member (codes "name") (string (tuple_text
    probe.tuple)) no_members))

abbrev pub field_data : FieldForm → Data
field_data field = string (field_word field)

-- the values of a record, none where there is no record
abbrev pub fields_in : Option (List FieldForm) → List FieldForm
fields_in layout = unwrap_or layout []

-- why tracing ended; null where it didn't, or where the session was closed first
abbrev pub cause_data : Phase → Data
cause_data (Stopped (Some end)) = string (cause_word end)
cause_data _ = null

-- the status with which a clause exited; null where tracing didn't end by it
abbrev pub exit_data : Phase → Data
exit_data (Stopped (Some (Exit code))) = of_signed code
exit_data _ = null

abbrev pub numbers_data : List ℕ → Data
numbers_data numbers = array (items_of (map of_number numbers))

abbrev pub reply_members : Answer → Members
reply_members done = ok_and no_members
reply_members (enabled count first) = member (codes "count") (of_number count)
    (member (codes "first") (of_number first) (ok_and no_members))
reply_members (snapped cpu bytes drops filled) =
    member (codes "cpu") (of_number cpu) (member (codes "data") (string (encode_lower bytes))
    (member (codes "drops") (of_number drops) (member (codes "filled") (boolean filled) (ok_and no_members))))
reply_members (aggregated name function rows) =
    member (codes "fn") (string (function_word function)) (member (codes "name") (string (characters name))
    (ok_and (member (codes "rows") (array (items_of (map row_data rows))) no_members)))
reply_members (status phase seen errors aggdrops dyndrops specdrops specfails) =
    member (codes "aggdrops") (numbers_data aggdrops) (member (codes "cause") (cause_data phase)
    (member (codes "dyndrops") (numbers_data dyndrops) (member (codes "errors") (numbers_data errors)
    (member (codes "exit") (exit_data phase) (ok_and (member (codes "phase") (string (phase_word phase))
    (member (codes "seen") (of_number seen) (member (codes "specdrops") (numbers_data specdrops)
    (member (codes "specfails") (of_number specfails) no_members)))))))))
reply_members (described epid probe layout) =
    member (codes "epid") (of_number epid) (member (codes "id") (of_number probe.id)
    (member (codes "layout") (array (items_of (map field_data (fields_in layout))))
    (ok_and (member (codes "probe") (string (tuple_text probe.tuple))
    (member (codes "size") (of_number (layout_size layout)) no_members)))))
reply_members (listed probes) = ok_and (member (codes "probes") (array (items_of (map probe_data probes))) no_members)
reply_members (refused refusal) = refusal_members refusal

-- a listed probe's text; its name is quoted as JSON quotes it
abbrev pub probe_text : Probe → List ℕ
probe_text probe = codes "{\"id\":" ++ decimal probe.id ++ codes ",\"name\":" ++ compact_text
    (string (tuple_text probe.tuple)) ++ codes "}"

-- numbers with commas between them
abbrev pub numbers_text : List ℕ → List ℕ
numbers_text numbers = join_with_byte comma (map decimal numbers)

-- the text of a status whose cause, exit and phase have these texts
abbrev pub status_text : (cause exit phase : List ℕ) (seen : ℕ) (errors aggdrops dyndrops specdrops : List ℕ) (specfails : ℕ) → List ℕ
status_text cause exit phase seen errors aggdrops dyndrops specdrops specfails =
    codes "{\"aggdrops\":[" ++ numbers_text aggdrops ++ codes "],\"cause\":" ++ cause
    ++ codes ",\"dyndrops\":[" ++ numbers_text dyndrops ++ codes "],\"errors\":[" ++ numbers_text errors
    ++ codes "],\"exit\":" ++ exit ++ codes ",\"ok\":true,\"phase\":\"" ++ phase
    ++ codes "\",\"seen\":" ++ decimal seen ++ codes ",\"specdrops\":[" ++ numbers_text specdrops
    ++ codes "],\"specfails\":" ++ decimal specfails ++ codes "}\n"

-- the text that describes an ECB, of whose record the values and the size have these texts
abbrev pub describe_text : (epid : ℕ) → Probe → (values size : List ℕ) → List ℕ
describe_text epid probe values size =
    codes "{\"epid\":" ++ decimal epid ++ codes ",\"id\":" ++ decimal probe.id
    ++ codes ",\"layout\":[" ++ values ++ codes "],\"ok\":true,\"probe\":" ++ compact_text
    (string (tuple_text probe.tuple)) ++ codes ",\"size\":" ++ size ++ codes "}\n"

-- a value's word in quotes
abbrev pub quoted_word : FieldForm → List ℕ
quoted_word field = codes "\"" ++ field_word field ++ codes "\""

-- the line with its newline
abbrev pub reply_text : Answer → List ℕ
reply_text answer = compact_text (object (reply_members answer)) ++ newline ∷ []
