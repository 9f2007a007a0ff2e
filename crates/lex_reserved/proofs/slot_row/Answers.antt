-- `lex_reserved::slot_row` meets its contract. Assumes nothing.
use mathlib.Core.Path.{sym, ap}
use Rattle.rules.specs.Base.{when◌then◌else◌}
use Rattle.rules.specs.Words.{instructions}
use Rattle.lex_reserved.specs.Slots.{key_of, row_from, slot_row}
use Rattle.lex_reserved.proofs.Slots.{no_word}
use Rattle.lex_reserved.proofs.slot_row.Goals as goal

pub returns-in-10 : goal.returns-in-10
unfolding key_of row_from slot_row instructions when◌then◌else◌
returns-in-10 c = sym (ap slot_row c.in-10.is)

pub returns-in-20 : goal.returns-in-20
unfolding key_of row_from slot_row instructions when◌then◌else◌
returns-in-20 c = sym (ap slot_row c.in-20.is)

pub returns-in-19 : goal.returns-in-19
unfolding key_of row_from slot_row instructions when◌then◌else◌
returns-in-19 c = sym (ap slot_row c.in-19.is)

pub returns-in-12 : goal.returns-in-12
unfolding key_of row_from slot_row instructions when◌then◌else◌
returns-in-12 c = sym (ap slot_row c.in-12.is)

pub returns-in-39 : goal.returns-in-39
unfolding key_of row_from slot_row instructions when◌then◌else◌
returns-in-39 c = sym (ap slot_row c.in-39.is)

pub returns-in-61 : goal.returns-in-61
unfolding key_of row_from slot_row instructions when◌then◌else◌
returns-in-61 c = sym (ap slot_row c.in-61.is)

pub returns-in-7 : goal.returns-in-7
unfolding key_of row_from slot_row instructions when◌then◌else◌
returns-in-7 c = sym (ap slot_row c.in-7.is)

pub returns-in-47 : goal.returns-in-47
unfolding key_of row_from slot_row instructions when◌then◌else◌
returns-in-47 c = sym (ap slot_row c.in-47.is)

pub returns-in-57 : goal.returns-in-57
unfolding key_of row_from slot_row instructions when◌then◌else◌
returns-in-57 c = sym (ap slot_row c.in-57.is)

pub returns-in-58 : goal.returns-in-58
unfolding key_of row_from slot_row instructions when◌then◌else◌
returns-in-58 c = sym (ap slot_row c.in-58.is)

pub returns-in-26 : goal.returns-in-26
unfolding key_of row_from slot_row instructions when◌then◌else◌
returns-in-26 c = sym (ap slot_row c.in-26.is)

pub returns-in-34 : goal.returns-in-34
unfolding key_of row_from slot_row instructions when◌then◌else◌
returns-in-34 c = sym (ap slot_row c.in-34.is)

pub returns-in-31 : goal.returns-in-31
unfolding key_of row_from slot_row instructions when◌then◌else◌
returns-in-31 c = sym (ap slot_row c.in-31.is)

pub returns-in-41 : goal.returns-in-41
unfolding key_of row_from slot_row instructions when◌then◌else◌
returns-in-41 c = sym (ap slot_row c.in-41.is)

pub returns-in-63 : goal.returns-in-63
unfolding key_of row_from slot_row instructions when◌then◌else◌
returns-in-63 c = sym (ap slot_row c.in-63.is)

pub returns-in-54 : goal.returns-in-54
unfolding key_of row_from slot_row instructions when◌then◌else◌
returns-in-54 c = sym (ap slot_row c.in-54.is)

pub returns-in-17 : goal.returns-in-17
unfolding key_of row_from slot_row instructions when◌then◌else◌
returns-in-17 c = sym (ap slot_row c.in-17.is)

pub returns-in-24 : goal.returns-in-24
unfolding key_of row_from slot_row instructions when◌then◌else◌
returns-in-24 c = sym (ap slot_row c.in-24.is)

pub returns-in-14 : goal.returns-in-14
unfolding key_of row_from slot_row instructions when◌then◌else◌
returns-in-14 c = sym (ap slot_row c.in-14.is)

pub returns-in-6 : goal.returns-in-6
unfolding key_of row_from slot_row instructions when◌then◌else◌
returns-in-6 c = sym (ap slot_row c.in-6.is)

pub returns-in-32 : goal.returns-in-32
unfolding key_of row_from slot_row instructions when◌then◌else◌
returns-in-32 c = sym (ap slot_row c.in-32.is)

pub returns-in-46 : goal.returns-in-46
unfolding key_of row_from slot_row instructions when◌then◌else◌
returns-in-46 c = sym (ap slot_row c.in-46.is)

pub returns-in-36 : goal.returns-in-36
unfolding key_of row_from slot_row instructions when◌then◌else◌
returns-in-36 c = sym (ap slot_row c.in-36.is)

pub returns-in-9 : goal.returns-in-9
unfolding key_of row_from slot_row instructions when◌then◌else◌
returns-in-9 c = sym (ap slot_row c.in-9.is)

pub returns-in-5 : goal.returns-in-5
unfolding key_of row_from slot_row instructions when◌then◌else◌
returns-in-5 c = sym (ap slot_row c.in-5.is)

pub returns-in-50 : goal.returns-in-50
unfolding key_of row_from slot_row instructions when◌then◌else◌
returns-in-50 c = sym (ap slot_row c.in-50.is)

pub returns-in-25 : goal.returns-in-25
unfolding key_of row_from slot_row instructions when◌then◌else◌
returns-in-25 c = sym (ap slot_row c.in-25.is)

pub returns-in-1 : goal.returns-in-1
unfolding key_of row_from slot_row instructions when◌then◌else◌
returns-in-1 c = sym (ap slot_row c.in-1.is)

pub returns-in-3 : goal.returns-in-3
unfolding key_of row_from slot_row instructions when◌then◌else◌
returns-in-3 c = sym (ap slot_row c.in-3.is)

pub returns-in-8 : goal.returns-in-8
unfolding key_of row_from slot_row instructions when◌then◌else◌
returns-in-8 c = sym (ap slot_row c.in-8.is)

pub returns-in-35 : goal.returns-in-35
unfolding key_of row_from slot_row instructions when◌then◌else◌
returns-in-35 c = sym (ap slot_row c.in-35.is)

pub returns-in-49 : goal.returns-in-49
unfolding key_of row_from slot_row instructions when◌then◌else◌
returns-in-49 c = sym (ap slot_row c.in-49.is)

pub returns-in_default : goal.returns-in_default
unfolding key_of row_from slot_row instructions when◌then◌else◌
returns-in_default c = no_word _ c.in_default.in_default-own.rest
