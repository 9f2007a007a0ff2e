-- Laws that the proofs of `object_check_blocks` cite. Assumes nothing.
pub mod Spots
pub mod Seeking
pub mod Blocks
pub mod Words
pub mod Once
