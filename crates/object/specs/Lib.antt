-- What the contracts of the object's crates cite beside the rules. Assumes nothing.
pub mod Meaning
pub mod Decides
pub mod Slots
