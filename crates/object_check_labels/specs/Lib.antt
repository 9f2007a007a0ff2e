-- What the contracts of `object_check_labels` cite beside the rules. Assumes nothing.
pub mod Follows
