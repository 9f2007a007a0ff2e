-- What the contracts of `link_decide` cite beside the rules. Assumes nothing.
pub mod Decided
