-- Laws that the proofs of `pass1` cite. Assumes nothing.
pub mod Steps
pub mod Loop
