-- What is to be shown of `tail_length`.
use Rattle.std.proofs.Common.{◌≡◌, ℕ, ◌-◌, ◌<◌, length, get_or, eq-eqb, ◌∙◌, arith, rules}
use Rattle.std.proofs.lemmas.List.{get_or_default}
use Rattle.dt_names.specs.Bytes.{newline}
use Rattle.dt_front.specs.Refusals.{ends_line}
use Rattle.dt_front.proofs.Rows.{last_place_is}
use Rattle.dt_front.proofs.refusal.tail_length.Goals as goal

pub returns-then-bytes-back-eq10-clause-same : goal.returns-then-bytes-back-eq10-clause-same
returns-then-bytes-back-eq10-clause-same c =
    let bytes = c.args.bytes.now in
    let back = c.loop-back.back in
    let inside : length bytes - 1 - back < length bytes = omega (arith, c.loop-back-test.true) in
    let at : get_or bytes (length bytes - 1 - back) 0 ≡ newline = search rules in
    let read = λ (d : ℕ). eq-eqb (get_or bytes (length bytes - 1 - back) d) newline (get_or_default bytes (length bytes - 1 - back) d 0 inside ∙ at) in
    last_place_is ends_line bytes back (omega (arith, c.loop-back-test.true)) c.loop-back.invariant (λ d _. read d)

pub returns-clause-same : goal.returns-clause-same
returns-clause-same c =
    let bytes = c.args.bytes.now in
    let all : length bytes ≡ c.loop-back.back = omega (arith, c.loop-back-test.false, c.loop-back.auto.back-end) in
    all ∙ last_place_is ends_line bytes c.loop-back.back (omega (arith, all)) c.loop-back.invariant
    (λ d inside. absurd (omega (arith, inside, all)))
