-- A row written behind the others and turned to its place, and the test of an overlap. Assumes nothing.
use Prim.Native.Nat.{ℕ, ◌+◌, ◌*◌}
use mathlib.Core.Path.{◌≡◌, ap, ◌∙◌}
use mathlib.Core.Bool.{◌&&◌}
use mathlib.Core.List.{List}
use lib.Dec.{ltb}
use Rattle.rules.specs.Passes.{ranges_overlap}
use Rattle.base_buffers.specs.Rows.{with_row}
use Rattle.base_rotate.specs.Turned.{turned}
use Rattle.pass2_blocks.specs.Rows.{row_in}

-- the row written behind the others, and turned to its place
pub row-in : {A : Type 0} (t u r : List A) (n k : ℕ) (a b : A) → u ≡ with_row t n a b → r ≡ turned (k * 2) (n * 2) (n * 2 + 2) u → r ≡ row_in t n k a b
unfolding row_in
row-in t u r n k a b e q = q ∙ ap (turned (k * 2) (n * 2) (n * 2 + 2)) e

pub overlapped : (a n b m x p y q : ℕ) → x ≡ a → y ≡ b → p ≡ n → q ≡ m → (ltb x (y + q) && ltb y (x + p)) ≡ ranges_overlap a n b m
unfolding ranges_overlap
overlapped a n b m x p y q ea eb en em = λ i. ltb (ea i) (eb i + em i) && ltb (eb i) (ea i + en i)
