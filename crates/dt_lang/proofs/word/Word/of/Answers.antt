-- What is to be shown of `of`.
use Rattle.std.proofs.Common.{sym, subst}
use Rattle.dt_lang.specs.Word.{IsWord}
use Rattle.dt_lang.specs.machine.KnownWord.{as_word}
use Rattle.dt_lang.specs.laws.Words.{named, unknown}
use Rattle.dt_lang.proofs.word.Word.of.Goals as goal

pub returns-in-Some : goal.returns-in-Some
returns-in-Some c =
    subst (IsWord c.args.name.now) (sym c.as_word.ensures)
    (named (as_word c.in-Some.known) c.args.name.now c.in-Some.ensures.some)

pub returns-in-None : goal.returns-in-None
returns-in-None c = unknown c.args.name.now _ c.in-None.ensures.none c.kept.ensures
