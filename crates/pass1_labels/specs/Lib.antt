-- What the contracts of `pass1_labels` cite beside the rules. Assumes nothing.
pub mod Naming
pub mod Tables
