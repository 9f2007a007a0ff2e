-- What the contracts of `view_note` cite. Assumes nothing.
pub mod Notes
