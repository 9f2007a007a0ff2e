-- Laws that the proofs of `asm_first_half` cite. Assumes nothing.
pub mod Checked
pub mod Started
