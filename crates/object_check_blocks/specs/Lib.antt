-- What the contracts of `object_check_blocks` cite beside the rules. Assumes nothing.
pub mod Places
