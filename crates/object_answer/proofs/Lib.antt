-- Laws that calls that make an object cite. Assumes nothing.
pub mod Leaving
pub mod Full
