-- Layouts without where they lie in memory.
use Rattle.std.specs.Prelude.{List, Option, map}
use Rattle.std.specs.Option.{option_map}
use Rattle.dt_record.specs.Layout.{FieldForm, number, text, stack, ustack}
use Rattle.dt_record.specs.declared.layout.Field.{Field}
use Rattle.dt_record.specs.declared.layout.Field.TheVariants.{Number, Text, Stack, Ustack}
use Rattle.dt_record.specs.declared.layout.Layout.{Layout}

abbrev pub form_of_field : Field → FieldForm
form_of_field Number = number
form_of_field Text = text
form_of_field (Stack frames) = stack frames.count
form_of_field (Ustack frames) = ustack frames.count

abbrev pub form_of_layout : Layout → Option (List FieldForm)
form_of_layout layout = option_map (λ fields. map form_of_field fields.items) layout.fields
