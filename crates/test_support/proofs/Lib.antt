-- Laws that the proofs of `test_support` cite. Assumes nothing.
pub mod Reading
pub mod Writing
