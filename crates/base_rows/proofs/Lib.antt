-- Laws that the proofs of `base_rows` cite. Assumes nothing.
pub mod Read
pub mod Sorted
