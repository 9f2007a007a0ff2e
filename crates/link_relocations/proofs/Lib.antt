-- Laws that the proofs of `link_relocations` cite. Assumes nothing.
pub mod Sieved
pub mod Counting
pub mod Merging
pub mod Named
