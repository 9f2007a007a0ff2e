-- What the contracts of `view_refusal` cite beside the rules. Assumes nothing.
pub mod Meanings
pub mod Refusals
