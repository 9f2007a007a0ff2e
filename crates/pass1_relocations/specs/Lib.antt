-- What the contracts of `pass1_relocations` cite beside the rules. Assumes nothing.
pub mod Pending
pub mod Resolved
