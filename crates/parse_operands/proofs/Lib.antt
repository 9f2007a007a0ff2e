-- Laws that the proofs of `parse_operands` cite. Assumes nothing.
pub mod Following
pub mod Unique
