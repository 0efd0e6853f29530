-- What the prover was told of lines and replies.

pub mod Feeding
pub mod Giving
pub mod Requests
pub mod Decimals
pub mod Texts
pub mod Floats
pub mod ItemTexts
pub mod Joined
pub mod ListedTexts
pub mod StatusTexts
pub mod DescribedTexts
pub mod TableTexts
