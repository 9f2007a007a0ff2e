-- Laws that the proofs of `object_check_relocations` cite. Assumes nothing.
pub mod Rows
