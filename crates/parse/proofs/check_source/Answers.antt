-- `parse::check_source` meets its contract. Assumes nothing.
use Rattle.parse.proofs.All.{source-long, source-read}
use borrow.Author.Rules.{rules}
use Rattle.parse.proofs.check_source.Goals as goal

pub returns-then-src-gt-SOURCE_BYTES : goal.returns-then-src-gt-SOURCE_BYTES
returns-then-src-gt-SOURCE_BYTES c = search (rules, source-long)

pub check_bytes-requires : goal.check_bytes-requires
check_bytes-requires c = (search rules, search (rules, source-read))
