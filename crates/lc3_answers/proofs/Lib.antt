-- The law of a token told by its four numbers. Assumes nothing.
pub mod Lexemes
