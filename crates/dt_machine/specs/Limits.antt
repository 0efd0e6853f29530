-- The limits, with their numbers. The law `limits_agree` says that the code keeps these.
use Rattle.std.specs.Prelude.{ℕ, ◌+◌, ◌-◌, ◌/◌}

-- the most processors of a machine
abbrev pub cpus_max : ℕ
cpus_max = 64

-- the most accounts of a machine
abbrev pub accounts_max : ℕ
accounts_max = 16

-- the most processes of a machine
abbrev pub processes_max : ℕ
processes_max = 1024

-- the greatest number of a process
abbrev pub pid_max : ℕ
pid_max = 999999

-- the most probes that a machine file lists
abbrev pub probes_max : ℕ
probes_max = 4096

-- the identifier of the first probe that a machine file lists, after BEGIN and END
abbrev pub first_probe_id : ℕ
first_probe_id = 3

-- the greatest identifier of a probe
abbrev pub probe_id_max : ℕ
probe_id_max = first_probe_id + probes_max - 1

-- the most firings of one script
abbrev pub script_max : ℕ
script_max = 65536

-- how many numbers a word of a set has
abbrev pub word_bits : ℕ
word_bits = 64

-- how many words a set of probes has: a bit for each identifier of a probe from 0 on
abbrev pub interest_words : ℕ
interest_words = probe_id_max / word_bits + 1
