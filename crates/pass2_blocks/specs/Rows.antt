-- The closed blocks that stand in rows of start and length, in rows of their.orig places, and in words beside marks. Assumes nothing.
use Rattle.std.specs.Prelude.{List, ℕ, ◌+◌, ◌*◌, get_or}
use Rattle.rules.specs.Base.{Span, span}
use Rattle.rules.specs.Objects.{Cell}
use Rattle.rules.specs.Passes.{ObjBlock, obj_block}
use Rattle.rules.specs.Buffers.{tab, head_row, cell_row, sum_of}
use Rattle.base_buffers.specs.Rows.{with_row}
use Rattle.base_rotate.specs.Turned.{turned}

-- n words from lo on
unfoldable pub cells_at : (ws ms : List ℕ) → ℕ → ℕ → List Cell
cells_at ws ms lo n = tab n (λ i. cell_row ws ms (lo + i))

-- the .orig of row k
abbrev pub orig_row : List ℕ → ℕ → Span
orig_row os k = span (get_or os (k * 2) 0) (get_or os (k * 2 + 1) 0)

-- block k: its words stand behind those of the rows before it
abbrev pub block_row : (bs os ws ms : List ℕ) → ℕ → ObjBlock
block_row bs os ws ms k = obj_block (get_or bs (k * 2) 0) (cells_at ws ms (sum_of (head_row bs) k) (get_or bs (k * 2 + 1) 0)) (orig_row os k)

unfoldable pub view_obj_blocks : ℕ → (bs os ws ms : List ℕ) → List ObjBlock
view_obj_blocks n bs os ws ms = tab n (block_row bs os ws ms)

-- a table of n rows of two with the row (a, b) put in at k: written behind them, and turned to its place
unfoldable pub row_in : {A : Type 0} → List A → (n k : ℕ) → A → A → List A
row_in t n k a b = turned (k * 2) (n * 2) (n * 2 + 2) (with_row t n a b)
