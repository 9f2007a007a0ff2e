-- Laws that the proofs of `object_names` cite. Assumes nothing.
pub mod Judged
pub mod Upper
pub mod Plain
