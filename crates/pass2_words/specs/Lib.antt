-- What the contracts of `pass2_words` cite beside the rules. Assumes nothing.
pub mod Writing
