-- What the proofs of `stored_reader` cite, and where the reader stands after a step. Assumes nothing.
pub mod Steps
