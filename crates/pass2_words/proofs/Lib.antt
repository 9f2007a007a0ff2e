-- Laws that the proofs of `pass2_words` cite. Assumes nothing.
pub mod Cells
pub mod Chars
pub mod Statements
