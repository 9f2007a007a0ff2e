-- Laws of the stored form: the promises are in Promised, First, Most, Reached and Checking (`check-answers`);
-- for whoever proves code that reads are Framed and Contents (the field at an offset), Checking (one field more), Walked and Lookups (fields read before), for code that writes Storing and Cut.
-- Assumes nothing.
pub mod Cut
pub mod Framed
pub mod Accepted
pub mod Written
pub mod Taken
pub mod Ordered
pub mod Complete
pub mod Kept
pub mod TwoBytes
pub mod Promised
pub mod Completed
pub mod First
pub mod Most
pub mod Contents
pub mod Checking
pub mod Storing
pub mod Lookups
pub mod Walked
pub mod Reached
