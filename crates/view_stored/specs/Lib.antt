-- What the contracts of `view_stored` cite beside the rules. Assumes nothing.
pub mod Broken
