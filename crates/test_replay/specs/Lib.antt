-- What the contracts of `test_replay` cite beside the rules. Assumes nothing.
pub mod Asked
pub mod Replayed
