-- What the contracts of `base_rows` cite. Assumes nothing.
pub mod Opened
