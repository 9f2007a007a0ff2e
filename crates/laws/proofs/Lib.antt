-- Laws of the walks over a source and of the two passes. Assumes nothing.
pub mod Steps
pub mod Alongside
pub mod Known
pub mod Read
pub mod Single
