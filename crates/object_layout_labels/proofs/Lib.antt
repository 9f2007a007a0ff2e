-- Laws that the proofs of `object_layout_labels` cite. Assumes nothing.
pub mod Rows
pub mod Loop
