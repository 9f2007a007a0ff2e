-- What the contracts of `base_text` cite beside the rules. Assumes nothing.
pub mod Runs
pub mod Names
pub mod Keys
