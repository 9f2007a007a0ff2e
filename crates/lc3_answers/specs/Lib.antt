-- What the contracts of the calls from other languages cite beside the rules. Assumes nothing.
pub mod Told
