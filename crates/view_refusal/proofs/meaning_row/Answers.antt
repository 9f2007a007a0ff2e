-- `view_refusal::meaning_row` meets its contract. Assumes nothing.
use Rattle.rules.specs.Answers.{name_in}
use Rattle.view_places.specs.Names.{filled}
use Rattle.view_refusal.specs.Meanings.{meanings, meaning, meaning_row}
use Rattle.view_refusal.proofs.MeaningLaws.{meaning-in, meaning-out}
use Rattle.view_refusal.proofs.meaning_row.Goals as goal

pub returns-then-number-lt-NUMBERS : goal.returns-then-number-lt-NUMBERS
unfolding meaning_row meaning meanings name_in filled
returns-then-number-lt-NUMBERS c = meaning-in _ c.if-number-lt-NUMBERS.true

pub returns : goal.returns
unfolding meaning_row meaning meanings name_in filled
returns c = meaning-out _ c.if-number-lt-NUMBERS.false
