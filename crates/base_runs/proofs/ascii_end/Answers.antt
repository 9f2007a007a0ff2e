-- `base_runs::ascii_end` meets its contract. Assumes nothing.
use borrow.Author.Rules.{rules}
use Rattle.base_runs.proofs.Steps.{all-run}
use Rattle.base_runs.proofs.ascii_end.Goals as goal

pub returns-then-all_ascii : goal.returns-then-all_ascii
returns-then-all_ascii c = search (rules, all-run)
