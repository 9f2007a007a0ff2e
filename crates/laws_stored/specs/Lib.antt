-- What the promises on the stored form are stated in, beside the rules. Assumes nothing.
pub mod Beginnings
pub mod Offsets
pub mod Lookups
pub mod Sizes
