-- Laws that the proofs of `list_print` cite. Assumes nothing.
pub mod Lines
pub mod Most
pub mod Telling
pub mod Program
