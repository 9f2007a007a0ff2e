-- What the contracts of `lc3` cite beside the rules. Assumes nothing.
pub mod Calls
