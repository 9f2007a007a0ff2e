-- `list_lines::put_cells` meets its contract. Assumes nothing.
use Rattle.std.proofs.Common.{rules, length-append}
use Rattle.std.proofs.lemmas.Slice.Zip.{zip_turn}
use Rattle.list_lines.proofs.Lines.{listed-none, listed-fits, listed_more}
use Rattle.list_lines.proofs.put_cells.Goals as goal

pub loop-word-init : goal.loop-word-init
loop-word-init c = search (rules, listed-none)

pub put_text-end-requires : goal.put_text-end-requires
put_text-end-requires c =
    let t = zip_turn c.args.words.now c.args.marks.now c.loop-word.yielded c.into_iter-word-iterator.result c.loop-word.word-iterator c.next.new.self _ (search rules) (search rules) c.loop-word.yielded_by _ c.in-Some.is c.next.ensures.steps in
    listed-fits c.loop-word.invariant c.requires.words_in_bounds t.0 (rw (← (t.2 0), ← (t.3 0)) c.cell_line-line.ensures)

pub loop-word-preserved : goal.loop-word-preserved
loop-word-preserved c =
    let t = zip_turn c.args.words.now c.args.marks.now c.loop-word.yielded c.into_iter-word-iterator.result c.loop-word.word-iterator c.next.new.self _ (search rules) (search rules) c.loop-word.yielded_by _ c.in-Some.is c.next.ensures.steps in
    rw length-append (listed_more c.loop-word.invariant t.0 (rw (← (t.2 0), ← (t.3 0)) c.cell_line-line.ensures) c.put_text-end.ensures)
