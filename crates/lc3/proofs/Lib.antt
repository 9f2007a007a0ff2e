-- Laws that the proofs of `lc3` cite. Assumes nothing.
pub mod Told
