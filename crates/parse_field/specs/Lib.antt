-- What the contracts of `parse_field` cite beside the rules. Assumes nothing.
pub mod Coded
