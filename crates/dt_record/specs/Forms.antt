-- What a clause left, without where it lies in memory.
use Rattle.std.specs.Prelude.{Option, map}
use Rattle.std.specs.Option.{option_map, option_map_or}
use Rattle.dt_record.specs.Taking.{TakenForm, Outcome, SpecEndForm, committed, discarded, passed_over, leaves}
use Rattle.dt_record.specs.declared.parts.SpecEnd.{SpecEnd}
use Rattle.dt_record.specs.declared.parts.SpecEnd.TheVariants.{Commit, Discard}
use Rattle.dt_record.specs.declared.parts.Taken.{Taken}

abbrev pub form_of_end : SpecEnd → SpecEndForm
form_of_end (Commit id) = committed id
form_of_end (Discard id) = discarded id

abbrev pub form_of_taken : Taken → TakenForm
form_of_taken taken = record {
  record_bytes = option_map (λ bytes. bytes.items) taken.bytes;
  spec = taken.spec;
  values = taken.values.items;
  ends = map form_of_end taken.ends.items;
  exit = taken.exit;
}

-- the outcome of a clause that isn't abandoned
abbrev pub outcome_of : Option Taken → Outcome
outcome_of taken = option_map_or (λ left. leaves (form_of_taken left)) taken passed_over
