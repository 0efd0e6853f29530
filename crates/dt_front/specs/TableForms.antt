-- Keys without where their texts lie in memory.
use Rattle.dt_front.specs.Tables.{KeyForm, number, text}
use Rattle.dt_front.specs.declared.table.KeyColumn.{KeyColumn}
use Rattle.dt_front.specs.declared.table.KeyColumn.TheVariants.{Number, Text}

abbrev pub form_of_key_part : KeyColumn → KeyForm
form_of_key_part (Number z) = number z
form_of_key_part (Text bytes) = text bytes.items
