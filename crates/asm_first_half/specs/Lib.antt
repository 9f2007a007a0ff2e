-- What the contracts of `asm_first_half` cite beside the rules. Assumes nothing.
pub mod Tabled
pub mod Starting
