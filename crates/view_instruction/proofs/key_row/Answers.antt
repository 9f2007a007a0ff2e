-- `view_instruction::key_row` meets its contract. Assumes nothing.
use Rattle.view_places.specs.Names.{filled}
use Rattle.view_instruction.specs.Spelled.{keys}
use Rattle.view_instruction.proofs.Keys.{rows, key_in, key-out}
use borrow.Author.Rules.{rules}
use Rattle.view_instruction.proofs.key_row.Goals as goal

pub returns-then-row-lt-KEYS : goal.returns-then-row-lt-KEYS
unfolding rows keys filled
returns-then-row-lt-KEYS c = key_in _

pub returns : goal.returns
unfolding rows keys filled
returns c = key-out _ (search rules)
