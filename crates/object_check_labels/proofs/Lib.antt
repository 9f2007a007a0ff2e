-- Laws that the proofs of `object_check_labels` cite. Assumes nothing.
pub mod Rules
