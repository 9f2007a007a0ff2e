-- What the contracts of `lc3_input` cite. Assumes nothing.
pub mod Held
