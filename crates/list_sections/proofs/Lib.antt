-- Laws that the proofs of `list_sections` cite. Assumes nothing.
pub mod Texts
pub mod Blocks
pub mod Sizes
