-- What the contracts of `link_words` cite beside the rules. Assumes nothing.
pub mod Settled
