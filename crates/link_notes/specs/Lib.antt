-- What the contracts of a link's merges cite beside the rules. Assumes nothing.
pub mod Notes
