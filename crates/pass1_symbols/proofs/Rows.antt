-- A row and its key put into the symbol table, and what the table is afterwards. Assumes nothing.
use mathlib.Core.Path.{◌≡◌, sym, ◌∙◌, ap}
use mathlib.Core.List.{List, [], ◌∷◌}
use Prim.Native.Nat.{ℕ, zero, suc, ◌+◌, ◌-◌, ◌*◌, ◌/◌, ◌%◌, ◌≤◌, ◌<◌}
use native.Mathlib.Nat.{not-suc-le-zero}
use native.Mathlib.Decide.{dec_lt}
use native.Mathlib.Omega.{arith}
use lib.ListN.{length, get_or}
use Rattle.rules.specs.Tables.{insert, newer, name_order}
use Rattle.rules.specs.Objects.{Name}
use Rattle.rules.specs.Passes.{Symbol}
use Rattle.rules.specs.Buffers.{Up}
use Rattle.rules.proofs.Rows.{tab-ext}
use Rattle.base_rows.specs.Opened.{inserted}
use Rattle.base_rows.proofs.Read.{get-before, get-new, get_after, get-past}
use Rattle.base_rows.proofs.Sorted.{Belongs, table-new, table_up, rows-kept, row_before, row-after, row_new}
use Rattle.base_keys.specs.Keys.{key_of}
use Rattle.parse_labels.specs.Names.{name_from}
use Rattle.pass1_symbols.specs.Symbols.{entry, symbol_row, symbols, key_row, Cells, InsertAt, Inserted}

-- rs with the row is ss, and with the key of its name, in two halves, rs'
module _ {rs src ss rs' : List ℕ} {n p a f s l : ℕ} (low high : ℕ) (v : InsertAt rs src n p a f s l)
    (e : ss ≡ inserted rs (n * 4) (p * 4) (a ∷ f ∷ s ∷ l ∷ [])) (g : rs' ≡ inserted ss (4096 + n * 2) (4096 + p * 2) (low ∷ high ∷ []))
    (q : length ss ≡ length rs) (t : length rs' ≡ length ss) where
  belongs : Belongs name_order (entry src) rs n p a f s l
  belongs = record { within = v.within; room = omega (arith, v.new, v.table.room); below = v.below; above = v.above }

  -- THE ROWS: the key changes none of their cells
  cell-kept : (i : ℕ) → i < 4096 → get_or rs' i 0 ≡ get_or ss i 0
  cell-kept i h =
      ap (λ (x : List ℕ). get_or x i 0) g
      ∙ get-before ss (4096 + n * 2) (4096 + p * 2) (low ∷ high ∷ []) (omega (arith, v.within)) (omega (arith, v.new, v.table.room)) i (omega arith)

  row_kept : (k : ℕ) → k < n + 1 → symbol_row rs' src k ≡ symbol_row ss src k
  row_kept k h =
      let c0 = cell-kept (k * 4) (omega (arith, v.new)) in
      let c1 = cell-kept (k * 4 + 1) (omega (arith, v.new)) in
      let c2 = cell-kept (k * 4 + 2) (omega (arith, v.new)) in
      let c3 = cell-kept (k * 4 + 3) (omega (arith, v.new)) in
      λ i. entry src (c0 i) (c1 i) (c2 i) (c3 i)

  cells-kept : (k : ℕ) → k < n + 1 → Cells src (get_or rs' (k * 4) 0) (get_or rs' (k * 4 + 1) 0) (get_or rs' (k * 4 + 2) 0) (get_or rs' (k * 4 + 3) 0)
  cells-kept k h =
      let c0 = cell-kept (k * 4) (omega (arith, v.new)) in
      let c1 = cell-kept (k * 4 + 1) (omega (arith, v.new)) in
      let c2 = cell-kept (k * 4 + 2) (omega (arith, v.new)) in
      let c3 = cell-kept (k * 4 + 3) (omega (arith, v.new)) in
      rw (c0, c1, c2, c3) (rows-kept name_order newer (entry src) belongs e (Cells src) v.table.rows v.row k h)

  up_kept : Up name_order (n + 1) (symbol_row rs' src)
  up_kept =
      let u = table_up name_order newer (entry src) belongs e v.table.up in
      record {
        next = λ k h.
            let x : (symbol_row rs' src k).0 ≡ (symbol_row ss src k).0 = ap (λ (z : Name × Symbol). z.0) (row_kept k (omega arith)) in
            let y : (symbol_row rs' src (suc k)).0 ≡ (symbol_row ss src (suc k)).0 = ap (λ (z : Name × Symbol). z.0) (row_kept (suc k) h) in
            rw (x, y) (u.next k h);
      }

  symbols-kept : symbols (n + 1) rs' src ≡ insert name_order newer (entry src a f s l) (symbols n rs src)
  unfolding symbols
  symbols-kept = tab-ext (n + 1) (symbol_row rs' src) (symbol_row ss src) row_kept ∙ table-new name_order newer (entry src) belongs e

  -- THE KEYS: the row changes none of their cells
  behind : (i : ℕ) → 4096 ≤ i → get_or ss i 0 ≡ get_or rs i 0
  behind i h =
      let w : n * 4 + 4 + (i - (n * 4 + 4)) ≡ i = omega (arith, v.new) in
      ap (λ (x : List ℕ). get_or x i 0) e
      ∙ (rw w at (get-past rs (n * 4) (p * 4) (a ∷ f ∷ s ∷ l ∷ []) (omega (arith, v.within)) (omega (arith, v.new, v.table.room)) (i - (n * 4 + 4))))

  half-before : (k : ℕ) → k < p → (j : ℕ) → j < 2 → get_or rs' (4096 + k * 2 + j) 0 ≡ get_or rs (4096 + k * 2 + j) 0
  half-before k h j b =
      ap (λ (x : List ℕ). get_or x (4096 + k * 2 + j) 0) g
      ∙ (get-before ss (4096 + n * 2) (4096 + p * 2) (low ∷ high ∷ []) (omega (arith, v.within)) (omega (arith, v.new, v.table.room)) (4096 + k * 2 + j) (omega arith)
      ∙ behind (4096 + k * 2 + j) (omega arith))

  half-after : (k : ℕ) → p ≤ k → k < n → (j : ℕ) → j < 2 → get_or rs' (4096 + suc k * 2 + j) 0 ≡ get_or rs (4096 + k * 2 + j) 0
  half-after k h m j b =
      let x : 4096 + suc k * 2 + j ≡ 4096 + p * 2 + 2 + (k * 2 + j - p * 2) = omega arith in
      let y : 4096 + p * 2 + (k * 2 + j - p * 2) ≡ 4096 + k * 2 + j = omega arith in
      ap (λ (i : ℕ). get_or rs' i 0) x
      ∙ (ap (λ (r : List ℕ). get_or r (4096 + p * 2 + 2 + (k * 2 + j - p * 2)) 0) g
      ∙ (get_after ss (4096 + n * 2) (4096 + p * 2) (low ∷ high ∷ []) (omega (arith, v.within)) (omega (arith, v.new, v.table.room)) (k * 2 + j - p * 2) (omega arith)
      ∙ (ap (λ (i : ℕ). get_or ss i 0) y ∙ behind (4096 + k * 2 + j) (omega arith))))

  half-new : (j : ℕ) → j < 2 → get_or rs' (4096 + p * 2 + j) 0 ≡ get_or (low ∷ high ∷ []) j 0
  half-new j b =
      ap (λ (x : List ℕ). get_or x (4096 + p * 2 + j) 0) g
      ∙ get-new ss (4096 + n * 2) (4096 + p * 2) (low ∷ high ∷ []) (omega (arith, v.within)) (omega (arith, v.new, v.table.room)) j b

  first-half : (r : List ℕ) (k : ℕ) → get_or r (4096 + k * 2 + 0) 0 ≡ get_or r (4096 + k * 2) 0
  first-half r k = ap (λ (x : ℕ). get_or r x 0) (let w : 4096 + k * 2 + 0 ≡ 4096 + k * 2 = omega arith in w)

  key-before : (k : ℕ) → k < p → key_row rs' k ≡ key_row rs k
  key-before k h = omega (arith, first-half rs' k, first-half rs k, half-before k h 0 (omega arith), half-before k h 1 (omega arith))

  key-after : (k : ℕ) → p ≤ k → k < n → key_row rs' (suc k) ≡ key_row rs k
  key-after k h m = omega (arith, first-half rs' (suc k), first-half rs k, half-after k h m 0 (omega arith), half-after k h m 1 (omega arith))

  key-new : {key : ℕ} → low ≡ key % 4294967296 → high ≡ key / 4294967296 → key_row rs' p ≡ key
  key-new {key} x y = omega (arith, first-half rs' p, half-new 0 (omega arith), half-new 1 (omega arith))

  module _ {key : ℕ} (w : key ≡ key_of (name_from src s l)) (x : low ≡ key % 4294967296) (y : high ≡ key / 4294967296) where
    later : (k : ℕ) → p < k → k < n + 1 → key_row rs' k ≡ key_of (symbol_row rs' src k).0
    later zero b h = absurd (not-suc-le-zero b)
    later (suc k) b h =
        let r = row_kept (suc k) h ∙ row-after name_order newer (entry src) belongs e k (omega arith) (omega arith) in
        key-after k (omega arith) (omega arith) ∙ (v.table.keys k (omega arith) ∙ ap (λ (z : Name × Symbol). key_of z.0) (sym r))

    earlier : (k : ℕ) → k < p → k < n + 1 → key_row rs' k ≡ key_of (symbol_row rs' src k).0
    earlier k b h =
        let r = row_kept k h ∙ row_before name_order newer (entry src) belongs e k b in
        key-before k b ∙ (v.table.keys k (omega (arith, v.within)) ∙ ap (λ (z : Name × Symbol). key_of z.0) (sym r))

    own : p < n + 1 → key_row rs' p ≡ key_of (symbol_row rs' src p).0
    own h =
        let r = row_kept p h ∙ row_new name_order newer (entry src) belongs e in
        key-new x y ∙ (w ∙ ap (λ (z : Name × Symbol). key_of z.0) (sym r))

    keys_kept : (k : ℕ) → k < n + 1 → key_row rs' k ≡ key_of (symbol_row rs' src k).0
    keys_kept k h = elim (dec_lt k p) [
      | yes b ↦ earlier k b h
      | no b ↦ elim (dec_lt p k) [ yes c ↦ later k c h | no c ↦ (let z : p ≡ k = omega arith in rw z at (own (omega arith))) ]
    ]

    pub symbol-inserted : Inserted rs src rs' n a f s l
    symbol-inserted = record {
      table = record { few = omega (arith, v.new); room = omega (arith, v.table.room); rows = cells-kept; up = up_kept; keys = keys_kept };
      symbols = symbols-kept;
    }
