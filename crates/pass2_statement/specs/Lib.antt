-- What the contracts of `pass2_statement` cite beside the rules. Assumes nothing.
pub mod State
