-- What the contracts of `base_rotate` cite. Assumes nothing.
pub mod Turned
