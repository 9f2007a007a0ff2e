-- `list_print::write_refused` meets its contract. Assumes nothing.
use Rattle.list_print.proofs.Lines.{feed-fits, line_wrote}
use Rattle.list_print.proofs.write_refused.Goals as goal

pub put_text-requires : goal.put_text-requires
put_text-requires c = feed-fits c.args.text.now _ _ c.clear.ensures c.requires.in_bounds _ _ c.put_text-a.ensures _ _ c.put_decimal-b.ensures

pub returns : goal.returns
returns c = line_wrote c.args.text.now _ _ c.clear.ensures c.requires.in_bounds _ _ c.put_text-a.ensures _ _ c.put_decimal-b.ensures _ _ c.put_text.ensures
