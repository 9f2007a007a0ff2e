-- `view_places::ends_line` meets its contract. Assumes nothing.
use Rattle.view_places.specs.Lines.{ends_line}
use Rattle.view_places.proofs.ends_line.Goals as goal

pub returns : goal.returns
unfolding ends_line
returns c = rw (c.byte_at-next.ensures, c.byte_at-b.ensures)
