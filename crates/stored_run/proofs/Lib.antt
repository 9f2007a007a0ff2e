-- Laws that the proofs of `stored_run` and of its callers cite. Assumes nothing.
pub mod Names
pub mod Running
