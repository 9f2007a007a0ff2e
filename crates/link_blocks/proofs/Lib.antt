-- Laws that the proofs of `link_blocks` cite, and laws for its callers. Assumes nothing.
pub mod Walk
pub mod Shared
pub mod Filling
pub mod Filled
pub mod Parts
pub mod Both
