-- What is to be shown of `some_lexeme`.
use Rattle.dt_lang.specs.laws.Lexemes.{some_lexed}
use Rattle.dt_lang.proofs.lexer.some_lexeme.Goals as goal

pub returns : goal.returns
returns c text m from within = some_lexed c.some_description.ensures text m from
