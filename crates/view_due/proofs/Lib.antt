-- Laws that the proofs of `view_due` cite. Assumes nothing.
pub mod Dues
