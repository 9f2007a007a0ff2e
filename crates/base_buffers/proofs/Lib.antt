-- Laws that the proofs of `base_buffers` cite. Assumes nothing.
pub mod Filled
pub mod Pasted
