-- Laws that the proofs of `view_far` cite. Assumes nothing.
pub mod Naming
pub mod Finding
pub mod FarTexts
