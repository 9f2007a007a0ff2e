-- `parse_field::operand_at` meets its contract. Assumes nothing.
use Rattle.parse_field.proofs.Places.{at_register, at-number, at_label, at-text, at_other}
use borrow.Author.Rules.{rules}
use Rattle.parse_field.proofs.operand_at.Goals as goal

pub returns-then-t-eq-REGISTER : goal.returns-then-t-eq-REGISTER
returns-then-t-eq-REGISTER c = search (rules, at_register)

pub returns-then-t-le-NEGATIVE : goal.returns-then-t-le-NEGATIVE
returns-then-t-le-NEGATIVE c = search (rules, at-number)

pub returns-then-t-eq-LABEL : goal.returns-then-t-eq-LABEL
returns-then-t-eq-LABEL c = search (rules, at_label)

pub returns-then-t-eq-STRING : goal.returns-then-t-eq-STRING
returns-then-t-eq-STRING c = search (rules, at-text)

pub returns : goal.returns
returns c = search (rules, at_other)
