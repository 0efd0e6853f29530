-- Probes of rows without where they lie in memory.
use Rattle.dt_front.specs.Rows.{ProbeForm}
use Rattle.dt_front.specs.declared.row.RowProbe.{RowProbe}

abbrev pub form_of_row_probe : RowProbe → ProbeForm
form_of_row_probe probe = record { id = probe.id; name = probe.name.items }
