-- What this crate's types mean, in the terms of `rules`. Assumes nothing.
pub mod Instructions
pub mod Disassembly
