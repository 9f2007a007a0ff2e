-- Laws of the table of rows. Assumes nothing.
pub mod Table
pub mod Names
pub mod Rule
pub mod Unique
