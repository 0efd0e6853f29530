-- Values that are printed: their texts are bytes, and their numbers have 64 bits.
use Rattle.std.specs.Prelude.{◌<◌, ◌^◌, FitsSigned, IfSome}
use Rattle.std.specs.Int.{w64}
use Rattle.std.specs.List.{AllByRecursion}
use Rattle.dt_record.specs.Split.{RecordForm, RecordedForm}
use Rattle.dt_record.specs.Split as split
use Rattle.dt_front.specs.Escaping.{AreBytes, ArePlain}
use Rattle.dt_front.specs.Picture.{PictureRowForm}
use Rattle.dt_front.specs.Refusals.{RefusalForm}
use Rattle.dt_front.specs.Rows.{ProbeForm}
use Rattle.dt_front.specs.Tables.{KeyForm}
use Rattle.dt_front.specs.Tables as key

abbrev pub IsPrintedProbe : ProbeForm → Type 0
IsPrintedProbe probe = (probe.id < 2 ^ 64) × AreBytes probe.name

abbrev pub IsPrintedValue : RecordedForm → Type 0
IsPrintedValue (split.number z) = FitsSigned w64 z
IsPrintedValue (split.text bytes) = AreBytes bytes
IsPrintedValue (split.frames list) = Unit {0}

abbrev pub IsPrintedRecord : RecordForm → Type 0
IsPrintedRecord r = AllByRecursion IsPrintedValue r.values

abbrev pub IsPrintedPart : KeyForm → Type 0
IsPrintedPart (key.number z) = FitsSigned w64 z
IsPrintedPart (key.text bytes) = AreBytes bytes

-- a picture shows the labels of its rows as they are
abbrev pub IsPrintedRow : PictureRowForm → Type 0
IsPrintedRow row = ArePlain row.label × (row.count < 2 ^ 64)

abbrev pub IsPrintedRefusal : RefusalForm → Type 0
IsPrintedRefusal refusal = IfSome refusal.clause (λ clause. clause < 2 ^ 64) × IfSome refusal.what AreBytes
