-- No reply has a number that is no integer.
use Rattle.std.proofs.Common.{◌≡◌, ℕ, ℤ, pos, negsuc, ◌||◌, false, List, [], ◌∷◌, Option, Some, None, map, refl, ap}
use Rattle.serde_json.specs.Data.{object}
use Rattle.serde_json.specs.Find.{is_float, of_integer}
use Rattle.serde_json.specs.View.{items_of}
use Rattle.serde_json.specs.Written.{has_float, items_have_float}
use Rattle.dt_aggfn.specs.Answers.{AnswerForm, number, rows}
use Rattle.dt_aggstore.specs.Table.{RowForm}
use Rattle.dt_aggstore.specs.declared.key.KeyPart.{KeyPart}
use Rattle.dt_aggstore.specs.declared.key.KeyPart.TheVariants.{Number, Text}
use Rattle.dt_cred.specs.declared.probe.Probe.{Probe}
use Rattle.dt_record.specs.Layout.{FieldForm}
use Rattle.dt_life.specs.Answer.{Answer, done, enabled, snapped, aggregated, status, listed, described, refused}
use Rattle.dt_life.specs.declared.phase.Phase.{Phase}
use Rattle.dt_life.specs.declared.phase.Phase.TheVariants.{Inactive, Active, Stopped}
use Rattle.dt_life.specs.declared.phase.End.TheVariants.{Stop, Exit, History}
use Rattle.dt_life.specs.declared.refusal.Refusal.{Refusal}
use Rattle.dt_life.specs.declared.refusal.Refusal.TheVariants.{Json, Request, LineLong, Program, Privilege, Destructive}
use Rattle.dt_life.specs.declared.refusal.Refusal.TheVariants.{AggClash, NoAgg, NoEpid, NoMatch, Limit, Busy, NoCpu}
use Rattle.dt_life.specs.declared.refusal.Refusal.TheVariants.{Quota, Memory}
use Rattle.dt_life.specs.declared.refusal.Refusal.TheVariants as refusal
use Rattle.dt_proto.specs.Reply.{cause_data, exit_data, field_data, fields_in, probe_data, refusal_members}
use Rattle.dt_proto.specs.Reply.{reply_members}
use Rattle.dt_proto.specs.Rows.{counted_data, least_data, part_data, row_data, value_data}
use Rattle.dt_proto.specs.Scalars.{of_number}

probes_plain : (probes : List Probe) → items_have_float (items_of (map probe_data probes)) ≡ false
probes_plain [] = refl
probes_plain (probe ∷ probes) = probes_plain probes

numbers_plain : (numbers : List ℕ) → items_have_float (items_of (map of_number numbers)) ≡ false
numbers_plain [] = refl
numbers_plain (n ∷ numbers) = numbers_plain numbers

fields_plain : (fields : List FieldForm) → items_have_float (items_of (map field_data fields)) ≡ false
fields_plain [] = refl
fields_plain (field ∷ fields) = fields_plain fields

refusal_plain : (refusal : Refusal) → has_float (object (refusal_members refusal)) ≡ false
refusal_plain (Program at why) = refl
refusal_plain (NoMatch clause) = refl
refusal_plain (Privilege clause what) = refl
refusal_plain (Destructive at what) = refl
refusal_plain (AggClash what) = refl
refusal_plain NoAgg = refl
refusal_plain NoEpid = refl
refusal_plain Json = refl
refusal_plain Request = refl
refusal_plain LineLong = refl
refusal_plain Limit = refl
refusal_plain Busy = refl
refusal_plain refusal.Option = refl
refusal_plain NoCpu = refl
refusal_plain Quota = refl
refusal_plain Memory = refl

cause_plain : (phase : Phase) → has_float (cause_data phase) ≡ false
cause_plain Inactive = refl
cause_plain Active = refl
cause_plain (Stopped None) = refl
cause_plain (Stopped (Some end)) = refl

integer_plain : (n : ℤ) → is_float (of_integer n) ≡ false
integer_plain (pos n) = refl
integer_plain (negsuc n) = refl

least_plain : (least : Option ℤ) → has_float (least_data least) ≡ false
least_plain None = refl
least_plain (Some z) = integer_plain z

counts_plain : (counted : List (Option ℤ × ℕ)) → items_have_float (items_of (map counted_data counted)) ≡ false
counts_plain [] = refl
counts_plain (row ∷ counted) = rw (least_plain row.0) (counts_plain counted)

value_plain : (value : AnswerForm) → has_float (value_data value) ≡ false
value_plain (number z) = integer_plain z
value_plain (rows counted) = counts_plain counted

key_plain : (key : List KeyPart) → items_have_float (items_of (map part_data key)) ≡ false
key_plain [] = refl
key_plain (Number z ∷ key) = rw (integer_plain z) (key_plain key)
key_plain (Text bytes ∷ key) = key_plain key

rows_plain : (table : List RowForm) → items_have_float (items_of (map row_data table)) ≡ false
rows_plain [] = refl
rows_plain (row ∷ table) = rw (key_plain row.key, value_plain row.value) (rows_plain table)

exit_plain : (phase : Phase) → has_float (exit_data phase) ≡ false
exit_plain Inactive = refl
exit_plain Active = refl
exit_plain (Stopped None) = refl
exit_plain (Stopped (Some (Exit code))) = integer_plain code
exit_plain (Stopped (Some Stop)) = refl
exit_plain (Stopped (Some History)) = refl

pub no_float : (answer : Answer) → has_float (object (reply_members answer)) ≡ false
no_float done = refl
no_float (enabled count first) = refl
no_float (snapped cpu bytes drops filled) = refl
no_float (aggregated name function table) = rw (rows_plain table) refl
no_float (status phase seen errors aggdrops dyndrops specdrops specfails) = rw (
  numbers_plain aggdrops,
  cause_plain phase,
  numbers_plain dyndrops,
  numbers_plain errors,
  exit_plain phase,
  numbers_plain specdrops,
) refl
no_float (described epid probe layout) = rw (fields_plain (fields_in layout)) refl
no_float (listed probes) = ap (λ b. b || false) (probes_plain probes)
no_float (refused refusal) = refusal_plain refusal
