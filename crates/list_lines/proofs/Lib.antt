-- Laws that the proofs of `list_lines` cite. Assumes nothing.
pub mod Digits
pub mod Appending
pub mod Lines
