-- `tree_at` ends, since each call of itself goes one link deeper.
use Rattle.test_link.proofs.+tree_at.Given as goal

abbrev pub decreases-tree_at : goal.decreases-tree_at
decreases-tree_at l = l.depth
