-- Laws that the proofs of `stored_fields` cite. Assumes nothing.
pub mod Bytes
pub mod Fields
