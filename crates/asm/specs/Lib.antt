-- What the contracts of `asm` cite beside the rules. Assumes nothing.
pub mod Call
