-- Laws that the proofs of `base_runs` cite. Assumes nothing.
pub mod Steps
