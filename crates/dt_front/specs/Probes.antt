-- The table of probes.
use Rattle.std.specs.Prelude.{ℕ, List, ◌++◌, codes, decimal, if◌then◌else◌, nat_lt}
use Rattle.dt_names.specs.Bytes.{colon}
use Rattle.dt_front.specs.Limits.{table_width}
use Rattle.dt_front.specs.Columns.{at_right}
use Rattle.dt_front.specs.Escaping.{shown}
use Rattle.dt_front.specs.Parts.{after_byte, before_byte}

-- the head of the table, where each name has a column
abbrev pub probes_head : List ℕ
probes_head = codes "   ID   PROVIDER            MODULE                          FUNCTION NAME\n"

-- The first columns of a probe's line: its identifier, its provider and its module. A text gives the four names with `:` between them.
abbrev pub probe_columns : ℕ → List ℕ → List ℕ
probe_columns id name =
    at_right 5 (decimal id) ++ codes " " ++ at_right 10 (shown (before_byte colon name))
    ++ codes " " ++ at_right 17 (shown (before_byte colon (after_byte colon name)))

-- its last columns, by what stands after its module
abbrev pub probe_names : List ℕ → List ℕ
probe_names after =
    codes " " ++ at_right 33 (shown (before_byte colon after)) ++ codes " " ++ shown (after_byte colon after) ++ codes "\n"

-- a probe's line
abbrev pub probe_line : ℕ → List ℕ → List ℕ
probe_line id name = probe_columns id name ++ probe_names (after_byte colon (after_byte colon name))

-- on a narrower page: the identifier, and the four names with `:` between them
abbrev pub narrow_head : List ℕ
narrow_head = codes "   ID PROBE\n"

abbrev pub narrow_line : ℕ → List ℕ → List ℕ
narrow_line id name = at_right 5 (decimal id) ++ codes " " ++ shown name ++ codes "\n"

-- the head of the table, and a probe's line, on a page of this width
abbrev pub table_head : ℕ → List ℕ
table_head page = if nat_lt page table_width then narrow_head else probes_head

abbrev pub table_line : ℕ → ℕ → List ℕ → List ℕ
table_line page id name = if nat_lt page table_width then narrow_line id name else probe_line id name
