-- What a contract sees of a copy of what is published.
use Rattle.std.specs.Prelude.{List}
use Rattle.dt_chain.specs.Books.{Marked}
use Rattle.dt_chain.specs.Writes.{Write}

-- the writes that are in it, the oldest first, and the beginning of a book that it stands for
pub record Copied : Type 0 where
  pub mark : Marked
  pub writes : List Write
