-- Facts of which the tests speak.
pub mod Numbers
