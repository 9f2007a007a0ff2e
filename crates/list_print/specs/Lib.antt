-- What the contracts of `list_print` cite beside the rules. Assumes nothing.
pub mod Program
