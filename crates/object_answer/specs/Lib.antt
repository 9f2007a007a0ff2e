-- What the contracts of calls that make an object cite. Assumes nothing.
pub mod Meant
pub mod Writes
