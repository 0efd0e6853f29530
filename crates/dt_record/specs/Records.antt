-- Records without where they lie in memory.
use Rattle.std.specs.Prelude.{map}
use Rattle.dt_record.specs.Split.{RecordedForm, RecordForm, number, text, frames}
use Rattle.dt_record.specs.declared.recorded.Record.{Record}
use Rattle.dt_record.specs.declared.recorded.Recorded.{Recorded}
use Rattle.dt_record.specs.declared.recorded.Recorded.TheVariants.{Number, Text, Frames}

abbrev pub form_of_recorded : Recorded → RecordedForm
form_of_recorded (Number z) = number z
form_of_recorded (Text bytes) = text bytes
form_of_recorded (Frames list) = frames list.items

abbrev pub form_of_record : Record → RecordForm
form_of_record record' = record { epid = record'.epid; values = map form_of_recorded record'.values.items }
