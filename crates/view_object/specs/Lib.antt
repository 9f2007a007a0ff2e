-- What the contracts of `view_object` cite beside the rules. Assumes nothing.
pub mod Pieces
pub mod Found
