-- Laws of the table of reserved words, and of the quick way to them. Assumes nothing.
pub mod Rows
pub mod Rule
pub mod Keys
pub mod Slots
