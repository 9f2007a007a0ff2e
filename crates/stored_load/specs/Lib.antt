-- What the contracts of `stored_load` cite beside the rules. Assumes nothing.
pub mod Filling
pub mod Call
