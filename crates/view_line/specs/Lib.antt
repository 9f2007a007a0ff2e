-- What the contracts of `view_line` cite. Assumes nothing.
pub mod Shown
