-- Laws that the proofs of `view_line` cite. Assumes nothing.
pub mod LineTexts
