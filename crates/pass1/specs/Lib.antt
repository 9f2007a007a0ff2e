-- What the contracts of `pass1` cite beside the rules. Assumes nothing.
pub mod Steps
