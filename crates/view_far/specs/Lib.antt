-- What the contracts of `view_far` cite beside the rules. Assumes nothing.
pub mod Far
pub mod Seeking
