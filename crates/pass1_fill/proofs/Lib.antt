-- Laws that the proofs of `pass1_fill` cite. Assumes nothing.
pub mod Filling
