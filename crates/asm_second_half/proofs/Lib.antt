-- Laws that the proofs of `asm_second_half` cite. Assumes nothing.
pub mod Blocks
pub mod Tables
pub mod Making
