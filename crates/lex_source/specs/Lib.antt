-- What the contracts of `lex_source` cite beside the rules. Assumes nothing.
pub mod Lexed
