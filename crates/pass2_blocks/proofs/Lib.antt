-- Laws that the proofs of `pass2_blocks` cite. Assumes nothing.
pub mod Passing
pub mod Places
pub mod Inserted
pub mod Placed
pub mod Answers
