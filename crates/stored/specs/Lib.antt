-- What the contracts of `stored` cite beside the rules. Assumes nothing.
pub mod Call
