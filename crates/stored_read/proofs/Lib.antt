-- Laws that the proofs of `stored_read` and of its callers cite. Assumes nothing.
pub mod Found
