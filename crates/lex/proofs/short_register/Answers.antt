-- `lex::short_register` meets its contract. Assumes nothing.
use Rattle.lex.proofs.OneDigit.{short-low, short-high, short-word, short-digit}
use borrow.Author.Rules.{rules}
use Rattle.lex.proofs.short_register.Goals as goal

pub returns-then-digit-lt48 : goal.returns-then-digit-lt48
returns-then-digit-lt48 c = search (rules, short-low)

pub returns-then-digit-gt-LAST_REGISTER : goal.returns-then-digit-gt-LAST_REGISTER
returns-then-digit-gt-LAST_REGISTER c = search (rules, short-high)

pub returns-then-is_word : goal.returns-then-is_word
returns-then-is_word c = search (rules, short-word)

pub returns : goal.returns
returns c = search (rules, short-digit)
