-- Laws of numbers and strings, one byte on. Assumes nothing.
pub mod NumberSteps
pub mod StringSteps
pub mod NumberRule
pub mod StringRule
pub mod Scanning
