-- Laws that the proofs of `view_refusal` cite. Assumes nothing.
pub mod MeaningLaws
pub mod RefusalTexts
