-- What the contracts of `object_names` cite beside the rules. Assumes nothing.
pub mod Whole
pub mod Plain
