-- The rows of records.
use Rattle.std.specs.Prelude.{ℕ, ◌-◌, ◌==◌, ◌||◌, List, Bool, Option, Some, None, if◌then◌else◌, slice_get}
use Rattle.std.specs.List.{flat_map}
use Rattle.dt_record.specs.Split.{RecordForm}
use Rattle.dt_front.specs.Rows.{ProbeForm, full_row, values_text}

-- the probe that a row names: that of the record's EPID, which count from 1; none for 0, which is no EPID, and none in rows without a column of probes
abbrev pub row_probe : Bool → List ProbeForm → ℕ → Option ProbeForm
row_probe quiet probes epid = if quiet || (epid == 0) then None else slice_get probes (epid - 1)

abbrev pub record_row : ℕ → ℕ → Option ProbeForm → RecordForm → List ℕ
record_row page cpu None r = values_text r
record_row page cpu (Some probe) r = full_row page cpu probe r

-- a row for each record of a processor, in order, on a page of this width
abbrev pub rows_text : ℕ → Bool → ℕ → List ProbeForm → List RecordForm → List ℕ
rows_text page quiet cpu probes records = flat_map (λ r. record_row page cpu (row_probe quiet probes r.epid) r) records
