-- What the contracts of `lex` cite beside the rules. Assumes nothing.
pub mod Ways
pub mod Label
pub mod Sorts
