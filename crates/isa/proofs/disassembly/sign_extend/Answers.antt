-- `sign_extend` meets its contract, on either side of the half. Assumes nothing.
use borrow.Author.Rules.{rules}
use Rattle.isa.proofs.Exact.{half-low, half_high}
use Rattle.isa.proofs.disassembly.sign_extend.Goals as goal

pub returns-then-bits-half : goal.returns-then-bits-half
returns-then-bits-half c = search (rules, half-low)

pub returns-else-bits-half : goal.returns-else-bits-half
returns-else-bits-half c = search (rules, half_high)
