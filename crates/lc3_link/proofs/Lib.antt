-- Laws that the proofs of `lc3_link` cite. Assumes nothing.
pub mod Calling
pub mod Telling
pub mod Either
