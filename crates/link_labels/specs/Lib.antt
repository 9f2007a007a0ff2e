-- What the contracts of `link_labels` cite beside the rules. Assumes nothing.
pub mod Matching
pub mod Laying
