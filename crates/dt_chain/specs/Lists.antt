-- The lists of all probes: who is listed, and which room they have.
use Rattle.std.specs.Prelude.{◌≡◌, ◌≤◌, ℕ, Bool, vec_len, vec_capacity}
use Rattle.dt_chain.specs.Limits.{list_count, seat_count}
use Rattle.dt_chain.specs.Listed.{is_listed_for}
use Rattle.dt_chain.specs.declared.lists.Lists.{Lists}

-- whether a seat is listed for a probe
abbrev pub is_seat_listed : Lists → (probe seat : ℕ) → Bool
is_seat_listed lists probe seat = is_listed_for lists.by_probe.items probe seat

-- There is a list for each probe, and an interest for each seat.
pub record IsFull (lists : Lists) : Type 0 where
  pub probes : vec_len lists.by_probe ≡ list_count
  pub seats : vec_len lists.by_seat ≡ seat_count

-- There is room for them.
pub record ListsHaveRoom (lists : Lists) : Type 0 where
  pub probes : list_count ≤ vec_capacity lists.by_probe
  pub seats : seat_count ≤ vec_capacity lists.by_seat
