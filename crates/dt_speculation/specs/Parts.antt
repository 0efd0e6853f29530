-- What a draw answers, what a part keeps and which records parts drop, as functions of the past. Guide, Speculative Tracing.
-- The definitions are the relations `DrawAnswers` and `HasPart`; the functions read the answer and the bytes off a past. Laws say
-- that what they read is what the relations say.
use Rattle.std.specs.Prelude.{ℕ, ◌+◌, ◌==◌, ◌&&◌, Bool, false, not, nat_le, nat_lt, List, [], ◌++◌, length, take, fold, find, count_by, unwrap_or, if◌then◌else◌}
use Rattle.std.specs.List.{range_with_len, enumerate_from}
use Rattle.dt_speculation.specs.History.{SpecEvent, SpecPast, put_under}
use Rattle.dt_speculation.specs.Records.{records_of}
use Rattle.dt_speculation.specs.Uses.{is_in_use}

-- what a draw answers after a past: the least identifier that isn't in use, or 0 where all are
abbrev pub draw_answer : SpecPast → ℕ
draw_answer past = unwrap_or (find (λ id. not (is_in_use id past.events)) (range_with_len 1 past.nspec)) 0

-- the bytes of a part, and those of a record where it fits after them
abbrev pub with_record : (size : ℕ) → (part bytes : List ℕ) → List ℕ
with_record size part bytes = if nat_le (length part + length bytes) size then part ++ bytes else part

-- the bytes of the part of an identifier on a processor after a past
abbrev pub part_bytes : SpecPast → (id cpu : ℕ) → List ℕ
part_bytes past id cpu = fold (with_record past.specsize) [] (records_of id cpu past.events)

-- What comes after a past is a record on this processor that its part drops: the identifier is in use, and the record doesn't fit.
abbrev pub is_dropped : (cpu : ℕ) → SpecPast → SpecEvent → Bool
is_dropped cpu past (put_under id at bytes) =
    at == cpu && (is_in_use id past.events && nat_lt past.specsize (length (part_bytes past id cpu) + length bytes))
is_dropped cpu past _ = false

-- a past up to its first so many events
abbrev pub first_events : ℕ → SpecPast → SpecPast
first_events n past = record { nspec = past.nspec; specsize = past.specsize; events = take n past.events }

-- how many records their parts dropped on a processor
abbrev pub spec_drops : SpecPast → (cpu : ℕ) → ℕ
spec_drops past cpu =
    count_by (λ (one : ℕ × SpecEvent). is_dropped cpu (first_events one.0 past) one.1) (enumerate_from 0 past.events)
