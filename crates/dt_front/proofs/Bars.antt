-- Of the bars of a picture.
use Rattle.std.proofs.Common.{ℕ, ◌+◌, ◌*◌, ◌/◌, ◌≤◌, ◌<◌, arith}
use Rattle.std.proofs.Math.Nat.{div-lt_iff_lt-mul, mul-le-mul_left}

-- a part of a total has no longer bar than the total
pub bar_within : (longest count total : ℕ) → 0 < total → count ≤ total → (2 * longest * count + total) / (2 * total) ≤ longest
bar_within longest count total some part =
    let twice : 2 * longest * count ≤ 2 * longest * total = mul-le-mul_left (2 * longest) part in
    let short : 2 * longest * count + total < (1 + longest) * (2 * total) = omega (arith, twice, some) in
    let less : (2 * longest * count + total) / (2 * total) < 1 + longest = (div-lt_iff_lt-mul {k = 2 * total} {x = 2 * longest * count + total} {y = 1 + longest} (omega (arith, some))).1 short in
    omega (arith, less)
