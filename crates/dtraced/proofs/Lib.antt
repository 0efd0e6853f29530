-- What the prover was told of a seat's word, and of what was served.
pub mod Decimals
pub mod Views
