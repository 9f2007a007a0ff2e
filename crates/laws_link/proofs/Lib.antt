-- Laws of linking two objects and any list of them. Assumes nothing.
pub mod Meanings
pub mod Mapped
pub mod Blocks
pub mod Tests
pub mod Answers
pub mod Gathers
pub mod Clashes
pub mod Union
pub mod Whole
pub mod Determined
pub mod Demand
pub mod Obtaining
