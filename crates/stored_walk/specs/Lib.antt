-- What the contracts of `stored_walk` cite beside the rules. Assumes nothing.
pub mod Walking
pub mod Behind
