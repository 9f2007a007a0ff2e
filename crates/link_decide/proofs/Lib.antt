-- Laws that the proofs of `link_decide` cite. Assumes nothing.
pub mod Steps
pub mod Ready
pub mod Counted
pub mod Deciding
