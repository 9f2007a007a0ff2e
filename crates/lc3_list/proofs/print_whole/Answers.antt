-- `lc3_list::print_whole` is safe and ends. Assumes nothing.
use Rattle.rules.proofs.Bools.{never}
use borrow.Author.Rules.{rules}
use Rattle.lc3_list.proofs.print_whole.Goals as goal

pub print_listing-requires : goal.print_listing-requires
print_listing-requires c = record { src_len_bound = search rules; src_len = λ e. never cc }
