-- How a seat is written.
use Rattle.std.specs.Prelude.{◌≡◌, ℕ, ◌<◌, List, decimal}
use Rattle.dt_chain.specs.Limits.{seat_count}

-- The text is the seat's number: decimal, without a sign or a leading zero, below 256.
pub record SpellsSeat (text : List ℕ) (number : ℕ) : Type 0 where
  pub within : number < seat_count
  pub spelled : text ≡ decimal number
