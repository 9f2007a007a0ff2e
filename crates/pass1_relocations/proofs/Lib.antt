-- Laws that the proofs of `pass1_relocations` cite. Assumes nothing.
pub mod Halving
pub mod Steps
pub mod Laid
