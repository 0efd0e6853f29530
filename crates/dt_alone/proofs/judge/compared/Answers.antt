-- What is to be shown of `compared`.
use Rattle.std.proofs.Common.{◌≡◌, ◌++◌, codes, Some, sym, ap, ◌∙◌}
use Rattle.std.proofs.lemmas.Bool.{true≢false}
use Rattle.std.proofs.lemmas.Bool.Decides.{Decides-eqb}
use Rattle.std.proofs.lemmas.List.{same_from_push}
use Rattle.std.proofs.lemmas.Slice.Eq.{strip_suffix_is, slice_eq-Decides}
use Rattle.dt_proto.specs.Splits.{with_newline}
use Rattle.dt_alone.proofs.judge.compared.Goals as goal

pub returns-in-Some : goal.returns-in-Some
returns-in-Some c =
    let front = c.in-Some.front.now in
    let whole : c.args.due.now ≡ front ++ codes "\n" =
    strip_suffix_is Decides-eqb c.args.due.now (codes "\n") (Some c.in-Some.front) c.in-Some.ensures.cases in
    let same = slice_eq-Decides Decides-eqb front c.args.reply.now c.eq.result c.eq.ensures in
    ap with_newline (sym (same.0 c.if-eq.true)) ∙ sym whole

pub returns-in_default : goal.returns-in_default
returns-in_default c = λ is.
    let front = c.in-Some.front.now in
    let whole : c.args.due.now ≡ front ++ codes "\n" =
    strip_suffix_is Decides-eqb c.args.due.now (codes "\n") (Some c.in-Some.front) c.in-Some.ensures.cases in
    let same = slice_eq-Decides Decides-eqb front c.args.reply.now c.eq.result c.eq.ensures in
    let both = same_from_push c.args.reply.now front 10 10 (is ∙ whole) in
    true≢false (sym (same.1 (sym both.0)) ∙ c.if-eq.false)
