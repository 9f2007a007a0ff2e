-- Laws that the proofs of `pass1_labels` cite. Assumes nothing.
pub mod Adding
pub mod Defining
