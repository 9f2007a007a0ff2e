-- Laws that the proofs of `pass2` cite, and what pass two leaves. Assumes nothing.
pub mod Room
pub mod Loop
pub mod Leaving
