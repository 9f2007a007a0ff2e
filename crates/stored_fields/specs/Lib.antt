-- What the contracts of the stored form's code cite beside the rules. Assumes nothing.
pub mod Fields
