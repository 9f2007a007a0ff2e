-- Laws that the proofs of `link_labels` and of the crates above it cite. Assumes nothing.
pub mod Joining
pub mod Siding
pub mod Agreeing
pub mod Rests
pub mod Noting
pub mod Matching
pub mod Due
pub mod Laying
pub mod Linked
