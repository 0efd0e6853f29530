-- What is to be shown of `push_numbers`.
use Rattle.std.proofs.Common.{◌≡◌, ◌++◌, ap, ◌∙◌, rules, to_z, of_z, w64}
use Rattle.std.specs.Fmt.{signed_decimal}
use Rattle.dt_proto.proofs.Joined.{joined_added}
use Rattle.dt_proto.proofs.rows.push_numbers.Goals as goal

pub returns : goal.returns
returns c =
    let first = c.in-Some.first.now in
    let same : to_z w64 (of_z w64 first) ≡ first = search rules in
    joined_added _ signed_decimal c.args.line.now.items c.push_signed.new.line.items c.push_more_numbers.new.line.items
    first c.in-Some.more.now c.args.numbers.now c.in-Some.ensures.cases.0
    (c.in_ok-push_signed.ensures ∙ ap (λ n. c.args.line.now.items ++ signed_decimal n) same) c.in_ok-push_more_numbers.ensures
