-- Laws that the proofs of `parse_labels` cite. Assumes nothing.
pub mod Walking
pub mod Labelled
pub mod Texts
pub mod Whole
pub mod Before
