-- What the contracts of `parse_labels` cite beside the rules. Assumes nothing.
pub mod Names
pub mod Walk
