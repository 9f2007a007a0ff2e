-- What the contracts of `pass1_symbols` cite beside the rules. Assumes nothing.
pub mod Symbols
pub mod Adding
