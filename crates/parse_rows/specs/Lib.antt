-- What the contracts of `parse_rows` cite beside the rules. Assumes nothing.
pub mod Rows
