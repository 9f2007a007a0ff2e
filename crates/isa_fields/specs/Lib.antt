-- What the contracts of `isa_fields` cite beside the rules. Assumes nothing.
pub mod Fields
