-- What the contracts of `stored_seek` cite beside the rules. Assumes nothing.
pub mod Seeking
