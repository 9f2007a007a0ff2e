-- Laws that the proofs of `stored_write_blocks` cite. Assumes nothing.
pub mod Ahead
pub mod Runs
pub mod Blocks
