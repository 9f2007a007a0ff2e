-- Laws that the proofs of `parse` cite. Assumes nothing.
pub mod Reading
pub mod Heads
pub mod All
pub mod Reach
pub mod Unique
