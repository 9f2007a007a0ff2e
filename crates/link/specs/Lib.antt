-- What the contract of `link` cites beside the rules, and the words of what follows from it. Assumes nothing.
pub mod Call
pub mod CarriedOut
