-- What is to be shown of `place_of`.
use Rattle.std.proofs.Common.{◌≡◌, ◌≢◌, ℕ, ◌==◌, ◌<◌, length, get_or, eq-eqb, sym, arith, rules}
use Rattle.std.proofs.lemmas.Bool.{ne_eqb}
use Rattle.std.proofs.lemmas.List.Sums.{position_or_len_is}
use Rattle.dt_front.proofs.parts.place_of.Goals as goal

pub returns-in-Some-clause-place : goal.returns-in-Some-clause-place
returns-in-Some-clause-place c =
    let bytes = c.args.bytes.now in
    let place = c.in-Some.place in
    let byte = c.args.byte in
    let within : place < length bytes = search rules in
    let before : (k : ℕ) → k < place → get_or bytes k 0 ≢ byte = search rules in
    let at : get_or bytes place 0 ≡ byte = search rules in
    sym (position_or_len_is (λ b. b == byte) bytes place 0 (omega (arith, within))
    (λ k below. ne_eqb (get_or bytes k 0) byte (before k below)) (λ _. eq-eqb (get_or bytes place 0) byte at))

pub returns-in-None-clause-place : goal.returns-in-None-clause-place
returns-in-None-clause-place c =
    let bytes = c.args.bytes.now in
    let byte = c.args.byte in
    let before : (k : ℕ) → k < length bytes → get_or bytes k 0 ≢ byte = search rules in
    sym (position_or_len_is (λ b. b == byte) bytes (length bytes) 0 (omega arith)
    (λ k below. ne_eqb (get_or bytes k 0) byte (before k below)) (λ past. absurd (omega (arith, past))))
