-- What is to be shown of `one_word`.
use Rattle.dt_lang.specs.laws.Existence.{some_word}
use Rattle.dt_lang.specs.laws.Names.{one_word}
use Rattle.dt_lang.specs.laws.Words.{long_is}
use Rattle.dt_lang.proofs.word.one_word.Goals as goal

pub returns-clause-some : goal.returns-clause-some
returns-clause-some c = some_word

pub returns-clause-one : goal.returns-clause-one
returns-clause-one c = one_word

pub returns-clause-long : goal.returns-clause-long
returns-clause-long c = long_is
