-- Laws that the proofs of `object_lookup` cite. Assumes nothing.
pub mod Rows
pub mod Once
