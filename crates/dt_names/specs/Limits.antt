-- The limits, with their numbers. The law `limits_agree` says that the code keeps these.
use Rattle.std.specs.Prelude.{ℕ}

-- the most bytes of a field of a description
abbrev pub field_max : ℕ
field_max = 63

-- the most fields of a description
abbrev pub fields_max : ℕ
fields_max = 4

-- the most bytes of a short text
abbrev pub short_text_max : ℕ
short_text_max = 31

-- how many bytes a text takes in a record
abbrev pub padded_size : ℕ
padded_size = 32

-- the most bytes of a name
abbrev pub name_max : ℕ
name_max = 31
