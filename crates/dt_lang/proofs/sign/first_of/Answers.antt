-- What is to be shown of `first_of`.
use Rattle.std.proofs.Common.{arith, sym, ◌∙◌, ap, ◌++◌, drop, length, List, ℕ, below_more}
use Rattle.std.proofs.lemmas.Bool.Decides.{Decides-eqb}
use Rattle.std.proofs.lemmas.Bool.{false≢true}
use Rattle.std.proofs.lemmas.List.{get_or_default}
use Rattle.std.proofs.lemmas.Slice.Eq.{starts_is}
use Rattle.dt_lang.specs.Spelling.{spelling}
use Rattle.dt_lang.proofs.sign.first_of.Goals as goal

pub returns-then-starts_with-clause-begins : goal.returns-then-starts_with-clause-begins
returns-then-starts_with-clause-begins c =
    let says = starts_is Decides-eqb c.args.text.now c.spelling.result.now c.starts_with.result
    c.starts_with.ensures.value in (
      drop (length c.spelling.result.now) c.args.text.now,
      says.0 c.if-starts_with.true
          ∙ ap (λ (p : List ℕ). p ++ drop (length c.spelling.result.now) c.args.text.now) c.spelling.ensures,
    )

pub loop-sign-preserved : goal.loop-sign-preserved
loop-sign-preserved c = below_more _ _ c.loop-sign.invariant (λ d b.
    let says = starts_is Decides-eqb c.args.text.now c.spelling.result.now c.starts_with.result
    c.starts_with.ensures.value in
    let same = get_or_default c.args.signs.now c.loop-sign.sign-index _ d c.loop-sign-test.true in
    let spelled = c.spelling.ensures ∙ ap spelling same in
    false≢true (sym c.if-starts_with.false ∙ says.1 b.0 (b.1 ∙ ap (λ (p : List ℕ). p ++ b.0) (sym spelled))))

pub returns-clause-none : goal.returns-clause-none
returns-clause-none c = λ k d below. c.loop-sign.invariant k (omega arith) d
