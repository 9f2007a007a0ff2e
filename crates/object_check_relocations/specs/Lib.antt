-- What the contracts of `object_check_relocations` cite beside the rules. Assumes nothing.
pub mod Ground
