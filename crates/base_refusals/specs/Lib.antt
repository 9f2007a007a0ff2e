-- A refusal as the code has it, for the contracts of both passes. Assumes nothing.
pub mod Refusals
