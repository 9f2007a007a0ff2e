-- What the contracts of `stored_put` cite beside the rules. Assumes nothing.
pub mod Laid
