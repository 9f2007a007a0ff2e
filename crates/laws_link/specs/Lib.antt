-- What the promises on linking are stated in, beside the rules. Assumes nothing.
pub mod Ways
pub mod Joins
pub mod Obtained
