-- Laws that the proofs of `stored_put` and of its callers cite. Assumes nothing.
pub mod Words
pub mod Field
pub mod Growing
pub mod Meeting
