-- What the contracts of `list_lines` and `list_sections` cite beside the rules. Assumes nothing.
pub mod Appended
pub mod Lines
