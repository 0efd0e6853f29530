-- The widths of what is printed, with their numbers. The law `limits_agree` says that the code keeps these.
use Rattle.std.specs.Prelude.{ℕ}

-- how many columns the longest bar has at most
abbrev pub bar_max : ℕ
bar_max = 40

-- how many it has at least, which are those of the word above it
abbrev pub bar_min : ℕ
bar_min = 14

-- how many columns a line has beside its bar, where its count has seven digits
abbrev pub beside_bar : ℕ
beside_bar = 26

-- how many columns the rows' names have in a picture
abbrev pub label_width : ℕ
label_width = 16

-- how many columns the names of probes have at most, and at least, in the rows of records
abbrev pub names_max : ℕ
names_max = 32

abbrev pub names_min : ℕ
names_min = 20

-- how many columns a row leaves to what stands beside the name of its probe, where the page is narrow
abbrev pub beside_names : ℕ
beside_names = 20

-- the least width of a page on which each name of a probe has a column in the table of probes
abbrev pub table_width : ℕ
table_width = 80
