-- The page of promises. Assumes nothing.
pub mod Promises
