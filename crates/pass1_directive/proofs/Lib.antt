-- Laws that the proofs of `pass1_directive` cite. Assumes nothing.
pub mod Directing
