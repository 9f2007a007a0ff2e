-- What the contracts of `lc3_link` cite beside the rules. Assumes nothing.
pub mod Linked
