-- What the contracts of `base_buffers` cite beside the rules. Assumes nothing.
pub mod Rows
pub mod Eights
