-- What the contracts of `stored_put_labels` cite beside the rules. Assumes nothing.
pub mod Putting
