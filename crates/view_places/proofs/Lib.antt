-- Laws that the proofs of `view_places` cite. Assumes nothing.
pub mod LineLaws
pub mod NameLaws
pub mod TableLaws
