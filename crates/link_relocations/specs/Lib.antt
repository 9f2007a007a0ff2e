-- What the contracts of `link_relocations` cite. Assumes nothing.
pub mod Open
