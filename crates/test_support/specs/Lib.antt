-- What the contracts of `test_support` cite beside the rules. Assumes nothing.
pub mod Fields
pub mod Sources
pub mod Telling
