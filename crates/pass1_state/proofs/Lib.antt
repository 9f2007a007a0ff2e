-- Laws that the proofs of `pass1_state` cite. Assumes nothing.
pub mod Rule
pub mod Counting
