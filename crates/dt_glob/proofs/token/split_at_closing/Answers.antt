-- What the proof of `split_at_closing` is told at its goals.
use Rattle.std.proofs.Common.{sym, ◌∙◌}
use Rattle.std.proofs.lemmas.Bool.{false≢true}
use Rattle.dt_glob.proofs.TokenLemmas.{seeks_first, seeks_more}
use Rattle.dt_glob.proofs.token.split_at_closing.Goals as goal

pub loop-sign-init : goal.loop-sign-init
loop-sign-init c = seeks_first c.args.text.now c.requires.0 c.requires.1 c.requires.2

pub loop-sign-preserved : goal.loop-sign-preserved
loop-sign-preserved c =
    let f = c.in-Some.ensures.some in
    seeks_more c.args.text.now c.loop-sign.inside c.loop-sign.rest.now c.in-Some.sign c.in-Some.behind.now
    c.loop-sign.invariant f.0
    (λ e. false≢true (sym c.if-is_plain.false ∙ c.is_plain.ensures.1 e)) f.1
