-- Laws of fields, and what the contracts of `isa_fields` give. Assumes nothing.
pub mod Numbers
pub mod Promises
