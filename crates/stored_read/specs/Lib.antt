-- What the contracts of `stored_read` cite beside the rules. Assumes nothing.
pub mod Told
