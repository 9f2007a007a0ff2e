-- What the contracts of `stored_write_labels` cite beside the rules. Assumes nothing.
pub mod Tables
