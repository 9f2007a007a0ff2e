-- Laws of tokens as the code tells them. Assumes nothing.
pub mod Back
pub mod NumberTold
pub mod MeantCoded
