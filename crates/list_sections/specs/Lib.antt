-- What the contracts of `list_sections` cite beside the rules. Assumes nothing.
pub mod Fronts
pub mod Low
pub mod Sizes
