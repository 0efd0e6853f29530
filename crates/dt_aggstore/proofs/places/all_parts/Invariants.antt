-- The parts before a place are put, and the later ones follow.
use Rattle.std.proofs.Common.{◌≡◌, ◌++◌, length, drop}
use Rattle.dt_aggstore.specs.Shares.{parts_told}
use Rattle.dt_aggstore.proofs.places.all_parts.Given as goal

abbrev pub invariant-loop-place : goal.invariant-loop-place
invariant-loop-place l = record {
  so_far : l.parts.items ++ parts_told (drop l.place l.places) ≡ parts_told l.places;
  long : length l.parts.items ≡ l.place;
}
