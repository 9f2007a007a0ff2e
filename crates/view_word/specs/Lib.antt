-- What the contracts of `view_word` cite beside the rules. Assumes nothing.
pub mod First
pub mod Labels
pub mod Words
