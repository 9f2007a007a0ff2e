-- Laws that the proofs of `view_stored` cite. Assumes nothing.
pub mod Telling
