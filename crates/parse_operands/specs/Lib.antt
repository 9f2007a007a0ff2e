-- What the contracts of `parse_operands` cite beside the rules. Assumes nothing.
pub mod Lines
