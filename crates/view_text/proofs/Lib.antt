-- Laws that the proofs of `view_text` cite. Assumes nothing.
pub mod Putting
pub mod Texts
