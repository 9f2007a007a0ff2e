-- `base_text::in_class` meets its contract. Assumes nothing.
use Rattle.base_text.specs.Runs.{in_class}
use Rattle.base_text.proofs.in_class.Goals as goal

pub returns-in-Word : goal.returns-in-Word
unfolding in_class
returns-in-Word c = rw c.in-Word.is c.is_word.ensures

pub returns-in-Digit : goal.returns-in-Digit
unfolding in_class
returns-in-Digit c = rw c.in-Digit.is c.is_digit.ensures

pub returns-in-Space : goal.returns-in-Space
unfolding in_class
returns-in-Space c = rw c.in-Space.is c.is_space.ensures

pub returns-in-Hash : goal.returns-in-Hash
unfolding in_class
returns-in-Hash c = rw c.in-Hash.is

pub returns-in-Line : goal.returns-in-Line
unfolding in_class
returns-in-Line c = rw c.in-Line.is

pub returns-in-Ascii : goal.returns-in-Ascii
unfolding in_class
returns-in-Ascii c = rw c.in-Ascii.is

pub returns-in-Plain : goal.returns-in-Plain
unfolding in_class
returns-in-Plain c = rw c.in-Plain.is c.is_plain.ensures
