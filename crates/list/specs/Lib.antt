-- What the contracts of `list` cite beside the rules. Assumes nothing.
pub mod Call
