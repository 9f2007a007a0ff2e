-- Laws that the proofs of `pass1_symbols` cite. Assumes nothing.
pub mod Rows
pub mod Steps
pub mod Laid
