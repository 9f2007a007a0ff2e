-- Laws that the proofs of `view_object` cite. Assumes nothing.
pub mod Rows
pub mod Lines
