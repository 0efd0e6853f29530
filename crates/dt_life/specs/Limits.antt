-- The limits, with their numbers. The law `limits_agree` says that the code keeps these.
use Rattle.std.specs.Prelude.{ℕ}

-- the most lines of one session
abbrev pub lines_max : ℕ
lines_max = 1024

-- how many bytes a principal buffer has where no option says otherwise
abbrev pub buffer_size_default : ℕ
buffer_size_default = 65536

-- the fewest bytes that `bufsize` may ask for
abbrev pub buffer_size_min : ℕ
buffer_size_min = 1

-- how many bytes the entries of aggregations may cost where no option says otherwise
abbrev pub aggsize_default : ℕ
aggsize_default = 65536

-- the fewest bytes that `aggsize` may ask for
abbrev pub aggsize_min : ℕ
aggsize_min = 8

-- after how many seen firings tracing ends where no option says otherwise
abbrev pub history_default : ℕ
history_default = 4096

-- the fewest firings that `histsize` may ask for
abbrev pub history_min : ℕ
history_min = 1

-- the most firings that `histsize` may ask for
abbrev pub history_max : ℕ
history_max = 1048576

-- how many bytes the thread-local variables that aren't 0 may cost where no option says otherwise
abbrev pub dynvarsize_default : ℕ
dynvarsize_default = 65536

-- how many speculations there may be where no option says otherwise
abbrev pub nspec_default : ℕ
nspec_default = 1

-- the fewest that `nspec` may ask for
abbrev pub nspec_min : ℕ
nspec_min = 1

-- how many bytes a speculation has on each processor where no option says otherwise
abbrev pub specsize_default : ℕ
specsize_default = 4096

-- the identifier of the probe that fires as tracing begins
abbrev pub begin_id : ℕ
begin_id = 1

-- the identifier of the probe that fires as tracing ends
abbrev pub end_id : ℕ
end_id = 2
