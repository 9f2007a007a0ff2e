-- Laws of instructions and their words, and what the contracts of `isa` give. Assumes nothing.
pub mod Parts
pub mod Exact
pub mod Promises
