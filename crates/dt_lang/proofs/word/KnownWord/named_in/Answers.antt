-- What is to be shown of `named_in`.
use Rattle.std.proofs.Common.{arith, sym, ◌∙◌, ap, below_more}
use Rattle.std.proofs.lemmas.Bool.{false≢true}
use Rattle.std.proofs.lemmas.List.{get_or_default}
use Rattle.dt_lang.specs.Word.{name_of_word}
use Rattle.dt_lang.specs.machine.KnownWord.{as_word}
use Rattle.dt_lang.proofs.word.KnownWord.named_in.Goals as goal

pub loop-word-preserved : goal.loop-word-preserved
loop-word-preserved c = below_more _ _ c.loop-word.invariant (λ d e.
    let same = get_or_default c.args.words.now c.loop-word.word-index _ d c.loop-word-test.true in
    false≢true (sym c.if-is_named.false ∙ c.is_named.ensures.1 (ap (λ w. name_of_word (as_word w)) same ∙ e)))

pub returns-clause-none : goal.returns-clause-none
returns-clause-none c = λ k d below. c.loop-word.invariant k (omega arith) d
