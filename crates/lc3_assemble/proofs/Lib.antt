-- Laws that the proof of `lc3_assemble` cites. Assumes nothing.
pub mod Answering
