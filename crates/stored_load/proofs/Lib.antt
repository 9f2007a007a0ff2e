-- Laws that the proofs of `stored_load` cite, and what follows from its contract. Assumes nothing.
pub mod Going
pub mod Answering
pub mod Accepting
pub mod Back
