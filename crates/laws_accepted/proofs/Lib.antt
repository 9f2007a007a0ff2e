-- What assembling accepts is a good object. Assumes nothing.
pub mod Relocations
pub mod Cells
pub mod Objects
pub mod Statements
pub mod Accepted
