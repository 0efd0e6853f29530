-- The places are those from where the pattern matches what is read of the text.
use Rattle.std.proofs.Common.{◌≡◌, ℕ, List, ◌++◌, length}
use Rattle.dt_glob.specs.Ready.{takers_of, stars_of, end_of}
use Rattle.dt_glob.proofs.ReadyLemmas.{places_at}
use Rattle.dt_glob.proofs.matcher.Matcher.matches.Given as goal

abbrev pub invariant-loop-byte : goal.invariant-loop-byte
invariant-loop-byte l = (back : List ℕ) × (l.text ≡ l.left ++ back)
    × (l.places ≡ places_at (takers_of l.self) (stars_of l.self) (end_of l.self) back)

abbrev pub decreases-loop-byte : goal.decreases-loop-byte
decreases-loop-byte l = length l.left
