-- The names of the facts at a seat. The first names are the publisher's: of the book of each seat's writes. Then come those of each seat: of its lives, of what its
-- sessions knew, and for each processor of what it took there.
use Rattle.std.specs.Prelude.{ℕ, ◌+◌, ◌*◌}
use Rattle.dt_chain.specs.Limits.{seat_count}

-- the name of the first of the publisher's books
abbrev pub first_book : ℕ
first_book = 0

-- the name of the book of what a seat wrote
abbrev pub book_name : (seat : ℕ) → ℕ
book_name seat = first_book + seat

-- how many names a seat has on a machine of so many processors
abbrev pub names_of_seat : ℕ → ℕ
names_of_seat cpus = cpus + 2

-- the first name of a seat: the books and the seats before it have the earlier ones
abbrev pub first_name : (cpus seat : ℕ) → ℕ
first_name cpus seat = first_book + seat_count + seat * names_of_seat cpus

abbrev pub life_name : (cpus seat : ℕ) → ℕ
life_name cpus seat = first_name cpus seat

abbrev pub known_name : (cpus seat : ℕ) → ℕ
known_name cpus seat = first_name cpus seat + 1

abbrev pub processor_name : (cpus seat cpu : ℕ) → ℕ
processor_name cpus seat cpu = first_name cpus seat + 2 + cpu
