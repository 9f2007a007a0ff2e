-- What the contracts of `parse` cite beside the rules. Assumes nothing.
pub mod Coded
pub mod Reach
