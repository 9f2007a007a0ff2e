-- Laws that the proofs of `link_words` cite, and laws for its callers. Assumes nothing.
pub mod Settling
pub mod Turned
pub mod Round
pub mod Laid
pub mod Union
