-- What is to be shown of `frames_in`.
use Rattle.std.proofs.Common.{◌≡◌, ◌<◌, ℤ, pos, ◌-ℤ◌, get_or, length, ap, arith, rules}
use Rattle.std.proofs.lemmas.Int.{ints}
use mir.Syntax.{w64}
use mir.Val.{of_z, to_z}
use Rattle.dt_names.specs.Bytes.{zero_digit}
use Rattle.dt_front.proofs.Words.{frames_by_digit, one_digit, single}
use Rattle.dt_front.proofs.reading.frames_in.Goals as goal

pub returns-in-len1 : goal.returns-in-len1
returns-in-len1 c =
    let digit = get_or c.args.count.now 0 0 in
    let byte : digit < 256 = search rules in
    let told : ℤ = to_z w64 (of_z w64 (to_z w64 (of_z w64 c.from.result) -ℤ to_z w64 (of_z w64 c.from-in-len1.result))) in
    let gives : told ≡ pos digit -ℤ pos zero_digit = omega (arith, ints, c.from.ensures, c.from-in-len1.ensures, byte) in
    frames_by_digit c.args.count.now digit told c.new.result (single c.args.count.now c.in-len1.len_at_least c.in-len1.len_below) gives
    c.new.ensures.found c.new.ensures.none

pub returns-in_default : goal.returns-in_default
returns-in_default c = λ n some few same. let e = ap length (one_digit c.args.count.now n few same) in absurd (omega (arith, e, c.in_default.len_below))

pub returns-in_default-2 : goal.returns-in_default-2
returns-in_default-2 c = λ n some few same. let e = ap length (one_digit c.args.count.now n few same) in absurd (omega (arith, e, c.in_default.len_at_least))
