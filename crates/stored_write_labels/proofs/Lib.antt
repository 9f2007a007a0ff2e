-- Laws that the proofs of `stored_write_labels` cite. Assumes nothing.
pub mod Rows
pub mod Sizes
