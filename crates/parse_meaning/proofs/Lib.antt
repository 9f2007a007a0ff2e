-- Laws that the proofs of `parse_meaning` cite, and that a statement which was read is the rules' statement. Assumes nothing.
pub mod Chars
pub mod Sizes
pub mod Tokens
pub mod Taken
pub mod Suited
pub mod Read
