-- The definitions of the tests.

pub mod Short
