-- `view_far::put_from` meets its contract. Assumes nothing.
use Rattle.view_far.proofs.FarTexts.{label_small, to-there, to_none}
use borrow.Author.Rules.{rules}
use Rattle.view_far.proofs.put_from.Goals as goal

pub offset_from-requires : goal.offset_from-requires
offset_from-requires c = (search rules, label_small _ c.args.st c.requires.0 _ c.where_is.ensures _ _ c.in-Some.is)

pub returns-in-Some : goal.returns-in-Some
returns-in-Some c = to-there _ c.args.st c.requires.0 _ c.where_is.ensures _ _ _ c.in-Some.is c.offset_from.ensures.0 c.put_line.ensures

pub returns-in-None : goal.returns-in-None
returns-in-None c = to_none _ c.args.st c.requires.0 _ c.where_is.ensures _ _ _ c.in-None.is
