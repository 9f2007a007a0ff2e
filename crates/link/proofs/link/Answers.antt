-- `link::link` meets its contract. Assumes nothing.
use mathlib.Core.Path.{sym, ◌∙◌}
use Rattle.link.proofs.Ready.{link-ready, merge-ready, labels-ready, relocs-ready}
use Rattle.link.proofs.Laid.{first-settles, second-settles, all_laid}
use Rattle.link.proofs.Answering.{linked-refused, linked-made}
use Rattle.link.proofs.link.Goals as goal

pub merge_blocks-requires : goal.merge_blocks-requires
merge_blocks-requires c = merge-ready (link-ready _ _ _ _ _ _ _ _ _ _ _ c.is_short-small.ensures c.lent_words-room.ensures c.decide-decision.ensures c.in-Ok.is)

pub settle_words-requires : goal.settle_words-requires
settle_words-requires c = first-settles (link-ready _ _ _ _ _ _ _ _ _ _ _ c.is_short-small.ensures c.lent_words-room.ensures c.decide-decision.ensures c.in-Ok.is) c.merge_blocks.ensures.blocks c.merge_blocks.ensures.words

pub settle_words-requires-in-Ok : goal.settle_words-requires-in-Ok
settle_words-requires-in-Ok c = second-settles (link-ready _ _ _ _ _ _ _ _ _ _ _ c.is_short-small.ensures c.lent_words-room.ensures c.decide-decision.ensures c.in-Ok.is) c.merge_blocks.ensures.blocks c.merge_blocks.ensures.words c.settle_words.ensures

pub lay_labels-requires : goal.lay_labels-requires
lay_labels-requires c = labels-ready (link-ready _ _ _ _ _ _ _ _ _ _ _ c.is_short-small.ensures c.lent_words-room.ensures c.decide-decision.ensures c.in-Ok.is)

pub slice_bounds-merge_relocations-end : goal.slice_bounds-merge_relocations-end
slice_bounds-merge_relocations-end c = sym c.decide-decision.auto.notes1

pub slice_bounds-merge_relocations-end-in-Ok : goal.slice_bounds-merge_relocations-end-in-Ok
slice_bounds-merge_relocations-end-in-Ok c = sym c.decide-decision.auto.notes2

pub merge_relocations-requires : goal.merge_relocations-requires
merge_relocations-requires c = relocs-ready (link-ready _ _ _ _ _ _ _ _ _ _ _ c.is_short-small.ensures c.lent_words-room.ensures c.decide-decision.ensures c.in-Ok.is)

pub returns-in-Err : goal.returns-in-Err
returns-in-Err c = linked-refused _ _ _ _ _ _ _ _ _ _ c.in-Err.fault.number c.in-Err.fault.start c.in-Err.fault.end c.is_short-small.ensures c.lent_words-room.ensures c.decide-decision.ensures c.in-Err.is _ c.clear.ensures _ c.refusal.ensures

pub shape_of-blocks-in-Ok : goal.shape_of-blocks-in-Ok
shape_of-blocks-in-Ok c = c.merge_blocks.auto.blocks

pub shape_of-words-in-Ok : goal.shape_of-words-in-Ok
shape_of-words-in-Ok c = c.settle_words-in-Ok.auto.words ∙ (c.settle_words.auto.words ∙ c.merge_blocks.auto.words)

pub shape_of-marks-in-Ok : goal.shape_of-marks-in-Ok
shape_of-marks-in-Ok c = c.merge_blocks.auto.marks

pub returns-in-Ok : goal.returns-in-Ok
returns-in-Ok c =
    linked-made (link-ready _ _ _ _ _ _ _ _ _ _ _ c.is_short-small.ensures c.lent_words-room.ensures c.decide-decision.ensures c.in-Ok.is) _ _ c.acceptance.ensures
    (all_laid (link-ready _ _ _ _ _ _ _ _ _ _ _ c.is_short-small.ensures c.lent_words-room.ensures c.decide-decision.ensures c.in-Ok.is) c.merge_blocks.ensures.blocks c.merge_blocks.ensures.words c.settle_words.ensures c.settle_words-in-Ok.ensures
    c.merge_blocks.ensures.marks c.lay_labels.ensures c.merge_relocations.ensures)
