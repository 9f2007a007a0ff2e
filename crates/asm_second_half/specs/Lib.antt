-- What the contracts of `asm_second_half` cite beside the rules. Assumes nothing.
pub mod Made
