-- The proofs of `asm`. Assumes nothing.
pub mod Leaving
pub mod Stages
pub mod Accepting
