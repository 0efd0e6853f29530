-- The parts before a place are put, and the later ones follow.
use Rattle.std.proofs.Common.{◌≡◌, ◌++◌, length, drop}
use Rattle.std.specs.Prelude.{map}
use Rattle.dt_aggstore.specs.Shares.{parts_told}
use Rattle.dt_aggstore.specs.declared.key.KeyPart.TheVariants.{Number}
use Rattle.dt_aggstore.proofs.places.numbers.Given as goal

abbrev pub invariant-loop-place : goal.invariant-loop-place
invariant-loop-place l = record {
  so_far : map Number l.numbers.items ++ parts_told (drop l.place l.parts) ≡ parts_told l.parts;
  long : length l.numbers.items ≡ l.place;
}
