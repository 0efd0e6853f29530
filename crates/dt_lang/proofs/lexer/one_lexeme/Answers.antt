-- What is to be shown of `one_lexeme`.
use Rattle.dt_lang.specs.laws.Lexemes.{one_lexed, lexed_within}
use Rattle.dt_lang.proofs.lexer.one_lexeme.Goals as goal

pub returns-clause-one : goal.returns-clause-one
returns-clause-one c = one_lexed c.one_description.ensures

pub returns-clause-within : goal.returns-clause-within
returns-clause-within c = lexed_within
