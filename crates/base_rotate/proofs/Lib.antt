-- Laws that the proofs of `base_rotate` cite. Assumes nothing.
pub mod Reversals
pub mod Moved
