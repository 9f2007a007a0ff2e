-- What the contracts of `view_places` cite. Assumes nothing.
pub mod Lines
pub mod Names
