-- What the contracts of `object_lookup` cite beside the rules. Assumes nothing.
pub mod Told
