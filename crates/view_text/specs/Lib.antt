-- What the contracts of `view_text` cite beside the rules. Assumes nothing.
pub mod Put
pub mod Texts
