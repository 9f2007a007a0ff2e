-- What the contracts of `object_layout_labels` cite beside the rules. Assumes nothing.
pub mod Laying
