-- Facts that are shared, and what each handle tells of them.

-- What is promised.
pub mod Facts
pub mod Lives
pub mod Handles
-- The laws of these.
pub mod laws
-- Private to the proofs: the rule. No promise of a call names it.
pub mod Rule
