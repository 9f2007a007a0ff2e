-- What the contracts of `stored_write_blocks` cite beside the rules. Assumes nothing.
pub mod Runs
pub mod Blocks
