-- The limits, with their numbers. The law `limits_agree` says that the code keeps these.
use Rattle.std.specs.Prelude.{ℕ, ◌-◌, ◌/◌}

-- how many processors the items of a trail can name. They are numbered from 0 on
abbrev pub trail_cpus_max : ℕ
trail_cpus_max = 64

-- a block has fewer cells
abbrev pub block_bound : ℕ
block_bound = 1099511627776

-- A trail has fewer cells, of all its blocks. Its widenings allow far fewer, so the code has no such constant.
abbrev pub cells_bound : ℕ
cells_bound = 1152921504606846976

-- how often a trail can be widened
abbrev pub widenings : ℕ
widenings = 31

-- how many cells a session's trail has as it is opened, how many it is widened by, and how many the longest has
abbrev pub opening_cells : ℕ
opening_cells = 66560

abbrev pub block_cells : ℕ
block_cells = 65536

abbrev pub longest : ℕ
longest = 1049600

-- how often the longest was widened
abbrev pub longest_widenings : ℕ
longest_widenings = (longest - opening_cells) / block_cells
