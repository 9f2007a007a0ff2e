-- Laws that the proofs of `view_instruction` cite. Assumes nothing.
pub mod Arms
pub mod Keys
pub mod Puts
