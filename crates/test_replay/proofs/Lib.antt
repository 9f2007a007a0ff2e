-- Laws that the proofs of `test_replay` cite. Assumes nothing.
pub mod Asking
pub mod Holding
