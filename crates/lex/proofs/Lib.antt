-- Laws of the lexer: each way from a token's first byte. Assumes nothing.
pub mod Narrowness
pub mod OneDigit
pub mod Told
pub mod First
pub mod LabelLaws
pub mod Standing
pub mod Marks
pub mod Peek
