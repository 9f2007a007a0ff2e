-- Laws that the proofs of `stored_seek` and of its callers cite. Assumes nothing.
pub mod Labels
pub mod Externals
pub mod Words
pub mod Cursors
