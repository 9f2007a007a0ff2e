-- Every refusal of assembling has a number of the table; the places of those of the passes. Assumes nothing.
pub mod Stages
pub mod Bounds
pub mod Tokens
pub mod Statements
pub mod Passes
pub mod Places
