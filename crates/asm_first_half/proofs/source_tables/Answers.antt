-- `asm_first_half::source_tables` meets its contract. The answers stand in the order of the needs: 11; pass one and what can go before its tables; what can go
-- before its refusal; then, of each of these two, the lengths of both tables and the answer. Assumes nothing.
use borrow.Author.Rules.{rules}
use Rattle.asm_first_half.proofs.Checked.{tabled, tabled-long, went-read}
use Rattle.asm_first_half.proofs.source_tables.Goals as goal

pub returns-then-src-gt-SOURCE_BYTES : goal.returns-then-src-gt-SOURCE_BYTES
returns-then-src-gt-SOURCE_BYTES c = search (rules, tabled-long)

pub check_bytes-requires : goal.check_bytes-requires
check_bytes-requires c = (search rules, search (rules, went-read))

pub returns-in-Ok : goal.returns-in-Ok
returns-in-Ok c = search (rules, tabled)

pub returns-in-Err : goal.returns-in-Err
returns-in-Err c = search (rules, tabled)
