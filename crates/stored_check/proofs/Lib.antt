-- What the proofs of `stored_check` cite. Assumes nothing.
pub mod Turns
