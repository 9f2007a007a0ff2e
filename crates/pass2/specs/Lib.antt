-- What the contracts of `pass2` cite beside the rules. Assumes nothing.
pub mod Passing
