-- Document 01 as definitions, in the order of its sections; what several sections need stands before the first of them. Assumes nothing.
pub mod Base
pub mod Capacities
pub mod Answers
pub mod Tokens
pub mod Regex
pub mod Patterns
pub mod Statements
pub mod Words
pub mod Tables
pub mod Objects
pub mod Buffers
pub mod Calls
pub mod Passes
pub mod Linking
pub mod Stored
pub mod Listing
pub mod Examples
