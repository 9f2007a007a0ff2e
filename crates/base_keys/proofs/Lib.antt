-- Laws that the proofs of `base_keys` cite, and that of keys. Assumes nothing.
pub mod KeyLaws
