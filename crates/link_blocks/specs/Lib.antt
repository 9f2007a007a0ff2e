-- What the contracts of `link_blocks` cite beside the rules. Assumes nothing.
pub mod Meeting
pub mod Merged
