-- What the contracts of `object_check` cite beside the rules. Assumes nothing.
pub mod Checked
