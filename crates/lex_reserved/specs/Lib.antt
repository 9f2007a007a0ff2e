-- What the contracts of `lex_reserved` cite. Assumes nothing.
pub mod Ident
pub mod Table
pub mod Slots
