-- What the contract of `stored_list` cites beside the rules. Assumes nothing.
pub mod Stored
