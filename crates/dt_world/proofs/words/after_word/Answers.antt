-- What `strip_prefix` says of the text.
use Rattle.std.proofs.lemmas.Bool.Decides.{Decides-eqb}
use Rattle.std.proofs.lemmas.Slice.Eq.{strip_prefix_is}
use Rattle.dt_world.proofs.Behind.{match_none, match_some}
use Rattle.dt_world.proofs.words.after_word.Goals as goal

pub returns-clause-found : goal.returns-clause-found
returns-clause-found c =
    match_some _ _ c.strip_prefix.result
    (strip_prefix_is Decides-eqb c.args.text.now c.args.word.now c.strip_prefix.result c.strip_prefix.ensures.cases)

pub returns-clause-none : goal.returns-clause-none
returns-clause-none c =
    match_none _ _ c.strip_prefix.result
    (strip_prefix_is Decides-eqb c.args.text.now c.args.word.now c.strip_prefix.result c.strip_prefix.ensures.cases)
