-- What the contracts of `pass1_fill` cite beside the rules. Assumes nothing.
pub mod Tables
