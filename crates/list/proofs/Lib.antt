-- Laws that the proofs of `list` cite. Assumes nothing.
pub mod Length
pub mod Listing
