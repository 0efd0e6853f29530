-- What is to be shown of `run`.
use Rattle.std.proofs.Common.{◌≡◌, false, sym, ◌∙◌, ap, take, get_or, length, arith}
use Rattle.std.proofs.lemmas.List.Sums.{prefix_len_is}
use Rattle.std.proofs.Math.Seq.{take-length}
use Rattle.dt_lang.specs.Class.{members}
use Rattle.dt_lang.proofs.byte_class.ByteClass.run.Goals as goal

pub returns-then-not-has : goal.returns-then-not-has
returns-then-not-has c =
    let stops : members c.args.self (get_or c.args.text.now c.loop-len.len 0) ≡ false =
    sym c.has.ensures ∙ c.if-not-has.true in
    let len = prefix_len_is (members c.args.self) c.args.text.now c.loop-len.len 0 (omega arith) c.loop-len.invariant
    (λ below. stops) in
    ap (λ n. take n c.args.text.now) (sym len)

pub returns : goal.returns
returns c =
    let same : c.loop-len.len ≡ length c.args.text.now = omega arith in
    let len = prefix_len_is (members c.args.self) c.args.text.now c.loop-len.len 0 (omega arith) c.loop-len.invariant
    (λ below. absurd (omega arith)) in
    sym (take-length c.args.text.now) ∙ ap (λ n. take n c.args.text.now) (sym (len ∙ same))
