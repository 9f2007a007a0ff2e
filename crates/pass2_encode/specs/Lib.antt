-- What the contracts of `pass2_encode` cite beside the rules. Assumes nothing.
pub mod Worded
