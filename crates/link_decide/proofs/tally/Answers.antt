-- `link_decide::tally` meets its contract. Assumes nothing.
use Rattle.link_decide.proofs.tally.Goals as goal

pub returns : goal.returns
returns c = cc
