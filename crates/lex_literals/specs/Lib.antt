-- What the contracts of `lex_literals` cite beside the rules. Assumes nothing.
pub mod Numbers
pub mod Strings
