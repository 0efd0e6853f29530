-- Rows of a picture without where they lie in memory.
use Rattle.dt_front.specs.Picture.{PictureRowForm}
use Rattle.dt_front.specs.declared.picture.PictureRow.{PictureRow}

abbrev pub form_of_picture_row : PictureRow → PictureRowForm
form_of_picture_row row = record { label = row.label.items; count = row.count }
