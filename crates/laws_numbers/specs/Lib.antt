-- What the laws on numbers of refusals are stated in. Assumes nothing.
pub mod Known
