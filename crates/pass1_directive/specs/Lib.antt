-- What the contracts of `pass1_directive` cite beside the rules. Assumes nothing.
pub mod Sound
