-- Laws that the proof of `link` cites, and what follows from its contract. Assumes nothing.
pub mod Ready
pub mod Answering
pub mod Laid
pub mod Accepting
pub mod Carrying
