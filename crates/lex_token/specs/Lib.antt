-- What the contracts of `lex_token` and `lex` cite beside the rules. Assumes nothing.
pub mod Coded
pub mod Flat
pub mod Meant
