-- Laws that the proofs of `stored` cite. Assumes nothing.
pub mod Storing
pub mod Made
