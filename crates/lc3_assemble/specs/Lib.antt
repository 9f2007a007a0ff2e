-- What the contracts of `lc3_assemble` cite beside the rules. Assumes nothing.
pub mod Assembled
