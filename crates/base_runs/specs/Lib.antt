-- What the contracts of `base_runs` cite. Assumes nothing.
pub mod Every
