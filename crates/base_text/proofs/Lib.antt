-- Laws that the proofs of `base_text` and of the crates above it cite. Assumes nothing.
pub mod Rest
pub mod RunLaws
pub mod NameLaws
pub mod ByteLaws
pub mod KeyLaws
