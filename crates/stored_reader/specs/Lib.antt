-- What the contracts of `stored_reader` cite beside the rules. Assumes nothing.
pub mod Steps
