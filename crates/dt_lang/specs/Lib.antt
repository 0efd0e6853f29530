-- Tokens, programs, the grammar between them, and for what tokens are refused.

-- What is promised, from how a text is read down to the bytes of tokens.
pub mod Reads
pub mod Refused
pub mod Stand
pub mod Grammar
pub mod Expression
pub mod Together
pub mod Fault
pub mod Lexeme
pub mod Mode
pub mod Word
pub mod Number
pub mod Spelling
pub mod Class
pub mod Blanks
-- Of dt_program, as this crate's own.
pub use Rattle.dt_program.specs.Program
pub use Rattle.dt_program.specs.Bounds
pub use Rattle.dt_program.specs.Description
-- Private to the proofs: the states of the readers. No promise names them.
pub mod machine
-- The laws of the grammar.
pub mod laws
