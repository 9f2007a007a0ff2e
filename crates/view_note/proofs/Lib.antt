-- Laws that the proofs of `view_note` cite. Assumes nothing.
pub mod NoteTexts
