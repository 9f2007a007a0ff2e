-- Laws that the proofs of `lc3_input` cite. Assumes nothing.
pub mod Parts
