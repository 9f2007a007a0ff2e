-- Laws that the proofs of `pass2_encode` cite. Assumes nothing.
pub mod Wording
