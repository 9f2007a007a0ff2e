-- What the contracts of `pass1_state` cite beside the rules. Assumes nothing.
pub mod State
