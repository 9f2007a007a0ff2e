-- Laws that the proofs of `parse_field` cite. Assumes nothing.
pub mod Reading
pub mod Answers
pub mod Places
pub mod Unique
