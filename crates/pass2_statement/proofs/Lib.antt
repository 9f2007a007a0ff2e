-- Laws that the proofs of `pass2_statement` cite. Assumes nothing.
pub mod Views
pub mod Emitting
pub mod Closing
pub mod ByKind
pub mod Known
