-- What the contracts of `parse_meaning` cite beside the rules. Assumes nothing.
pub mod Reading
