-- `stored_walk::step_block` meets its contract: a law for each return. Assumes nothing.
use mathlib.Core.Path.{sym, ◌∙◌}
use Rattle.stored_walk.proofs.Blocks.{block_room_lem, block-taken, block_refused, block-long}
use Rattle.stored_walk.proofs.step_block.Goals as goal

pub opened-requires : goal.opened-requires
opened-requires c = block_room_lem _ _ _ (sym c.block_fits.ensures ∙ c.if-block_fits.true)

pub returns-then-block_fits : goal.returns-then-block_fits
returns-then-block_fits c =
    let first = c.from-first.ensures ∙ c.number_at.ensures in
    let count = c.from-count.ensures ∙ c.number_at-then-end-start.ensures in
    block-taken _ _ _ _ _ _ c.requires c.if-end-start.true first count (sym c.block_fits.ensures ∙ c.if-block_fits.true) _ c.opened.ensures

pub returns-then-end-start : goal.returns-then-end-start
returns-then-end-start c =
    let first = c.from-first.ensures ∙ c.number_at.ensures in
    let count = c.from-count.ensures ∙ c.number_at-then-end-start.ensures in
    block_refused _ _ _ _ _ _ c.requires c.if-end-start.true first count (sym c.block_fits.ensures ∙ c.if-block_fits.false)

pub returns : goal.returns
returns c = block-long _ _ _ _ c.requires c.if-end-start.false
