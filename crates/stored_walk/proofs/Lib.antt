-- Laws that the proofs of `stored_walk` and of its callers cite. Assumes nothing.
pub mod Standing
pub mod Blocks
pub mod Runs
pub mod Ending
pub mod Labels
pub mod Relocations
pub mod Starting
pub mod Dispatch
