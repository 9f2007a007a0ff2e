-- Laws that the proof of `stored_list` cites. Assumes nothing.
pub mod Loading
