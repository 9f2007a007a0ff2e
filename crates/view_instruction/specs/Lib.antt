-- What the contracts of `view_instruction` cite beside the rules. Assumes nothing.
pub mod Lines
pub mod Spelled
