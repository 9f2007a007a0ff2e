-- Laws that the proofs of `view_word` cite. Assumes nothing.
pub mod Seeking
pub mod Rows
pub mod Lines
