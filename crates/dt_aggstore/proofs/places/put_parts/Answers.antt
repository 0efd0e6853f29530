-- All places have their part, or none.
use Rattle.std.proofs.Common.{◌≤◌, length, arith}
use Rattle.dt_aggstore.proofs.Parts.{all_told}
use Rattle.dt_aggstore.proofs.places.put_parts.Goals as goal

pub returns-clause-key : goal.returns-clause-key
returns-clause-key c =
    let places = c.loop-place.places in
    let so_far = c.loop-place.invariant in
    let all : length places ≤ c.loop-place.place =
    omega (arith, so_far.long, c.loop-place-test.false, c.loop-place.auto.place-end) in
    all_told places c.args.key.now.parts.items (omega (arith, so_far.long, c.requires))
    (λ k d e small. so_far.told k d e (omega (arith, small, all, so_far.long, c.requires)) small)
    (λ k d past small. so_far.none k d past (omega (arith, small, all)))
