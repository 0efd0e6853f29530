-- The form of a line, as it is lent and as it is owned: bytes of more than LINE_MAX are long, whatever holds them.
use Rattle.dt_proto.specs.Lines.{LineForm, long_line, line_form}
use Rattle.dt_proto.specs.declared.asked.Asked.{Asked}
use Rattle.dt_proto.specs.declared.asked.Asked.TheVariants as asked
use Rattle.dt_proto.specs.declared.asked.WholeLine.{WholeLine}
use Rattle.dt_proto.specs.declared.asked.WholeLine.TheVariants as whole_line

abbrev pub form_lent : WholeLine → LineForm
form_lent (whole_line.Bytes bytes) = line_form bytes.now
form_lent whole_line.Long = long_line

abbrev pub form_asked : Asked → LineForm
form_asked (asked.Line bytes) = line_form bytes.items
form_asked asked.Long = long_line
