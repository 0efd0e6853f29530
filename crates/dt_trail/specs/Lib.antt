-- Rows of blocks: what an owner and its notes may do, and what they know.

-- What is promised.
pub mod Limits
pub mod Items
pub mod Kinds
pub mod Known
-- Private to the proofs: the rule, and what holds of the fields. No promise of a call names them.
pub mod Blocks
pub mod Rule
pub mod Placed
pub mod Insides
-- The laws of these.
pub mod laws
