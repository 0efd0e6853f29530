-- Private to the proofs: what the readers of tokens, expressions and programs know after each step. No promise names these.
pub mod KnownWord
pub mod Piece
pub mod ExpressionState
pub mod ExpressionView
pub mod ClauseState
pub mod PlaceView
pub mod ReaderView
pub mod Cause
pub mod KindView
pub mod ShownCause
pub mod Fits
