-- The parts before a place are the same.
use Rattle.std.proofs.Common.{◌≡◌, drop}
use Rattle.dt_aggstore.specs.Keys.{key_cmp}
use Rattle.dt_aggstore.specs.Shares.{parts_told}
use Rattle.dt_aggstore.proofs.places.order.Given as goal

abbrev pub invariant-loop-place : goal.invariant-loop-place
invariant-loop-place l =
    key_cmp (parts_told l.one) (parts_told l.other)
    ≡ key_cmp (parts_told (drop l.place l.one)) (parts_told (drop l.place l.other))
