-- What the contracts of `pass2_blocks` cite beside the rules. Assumes nothing.
pub mod Rows
pub mod Spots
pub mod Placing
