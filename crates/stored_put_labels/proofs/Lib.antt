-- Laws that the proofs of `stored_put_labels` cite. Assumes nothing.
pub mod Rows
