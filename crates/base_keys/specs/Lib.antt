-- What the contracts of `base_keys` cite beside the rules. Assumes nothing.
pub mod Keys
