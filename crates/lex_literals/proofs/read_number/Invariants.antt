-- `lex_literals::read_number` meets its contract. Assumes nothing.
use Rattle.std.proofs.Common.{◌≡◌, ◌≤◌, length, max}
use Rattle.base_text.specs.Runs.{from}
use Rattle.lex_literals.specs.Numbers.{number_from}
use Rattle.lex_literals.proofs.read_number.Given as goal

abbrev pub invariant-loop-i : goal.invariant-loop-i
invariant-loop-i l = record {
  same : number_from l.base l.bound l.at l.i l.value (from l.src l.i) ≡ number_from l.base l.bound l.at l.at 0 (from l.src l.at);
  small : l.value ≤ 65535;
  within : l.i ≤ max l.at (length l.src);
}
