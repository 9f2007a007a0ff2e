-- What the contracts of `view_due` cite beside the rules. Assumes nothing.
pub mod Wanted
pub mod Coded
