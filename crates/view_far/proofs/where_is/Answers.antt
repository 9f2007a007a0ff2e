-- `view_far::where_is` meets its contract. Assumes nothing.
use Rattle.view_far.proofs.Finding.{source-short, source-tells, source-none}
use Rattle.view_far.proofs.where_is.Goals as goal

pub find-requires : goal.find-requires
find-requires c = source-short _ _ c.check_source.ensures c.in-Ok.is

pub returns-in-Ok : goal.returns-in-Ok
returns-in-Ok c = source-tells _ _ c.check_source.ensures _ c.in-Ok.is _ c.find.ensures

pub returns-in-Err : goal.returns-in-Err
returns-in-Err c = source-none _ _ c.check_source.ensures _ _ c.in-Err.is
