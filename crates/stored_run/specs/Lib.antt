-- What the contracts of `stored_run` cite beside the rules. Assumes nothing.
pub mod Following
