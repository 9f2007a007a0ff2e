-- Blocks written one behind another, and their sizes added up. Assumes nothing.
use Prim.Native.Nat.{ℕ, zero, suc, ◌+◌, ◌-◌, ◌*◌, ◌≤◌, ◌<◌}
use mathlib.Core.Path.{◌≡◌, refl, sym, ◌∙◌, ap}
use mathlib.Core.List.{List, [], ◌∷◌, ◌++◌, flat_map}
use native.Mathlib.Numerals.{add-one}
use native.Mathlib.Omega.{arith}
use lib.ListN.{length, take, drop, get_or, length-append, length-drop}
use lib.Seq.{length-take-le, get_or-take, get_or-drop, ext_get_or}
use Rattle.rules.specs.Tables.{Table}
use Rattle.rules.specs.Objects.{Cell, unset}
use Rattle.rules.specs.Buffers.{tab, sum_of, head_row, cell_row, view_blocks, BlocksOk, WordsOk}
use Rattle.rules.specs.Stored.{block, spell, run_items, runs_of, block_items}
use Rattle.rules.proofs.Rows.{length-tab, get_or-tab}
use Rattle.laws_stored.proofs.Framed.{spell-append}
use Rattle.list_lines.specs.Appended.{Appended}
use Rattle.list_lines.proofs.Appending.{appended-none, appended-more, rows_more, rows_fit}
use Rattle.list_sections.proofs.Blocks.{block_row, carve-tab, sum-grows}
use Rattle.stored_fields.specs.Fields.{field_of}
use Rattle.stored_fields.proofs.Fields.{length-block}
use Rattle.stored_write_blocks.specs.Runs.{cells_of, run_bytes, Marked, CellsReady, RunsSized}
use Rattle.stored_write_blocks.specs.Blocks.{block_bytes, blocks_bytes, MarksOk, BlocksSized}

-- ONE BLOCK

module _ (s at : ℕ) (ws ms b : List ℕ) where
  whole-block : length (block_bytes s ws ms) ≡ length (field_of (block s (length ws))) + length (run_bytes ws ms)
  unfolding block_bytes
  whole-block = length-append (field_of (block s (length ws))) (run_bytes ws ms)

  pub field_fits : at + length (block_bytes s ws ms) ≤ length b → at + length (field_of (block s (length ws))) ≤ length b
  field_fits h = omega (arith, whole-block)

  pub runs_fit : (c : List ℕ) (m : ℕ) → at + length (block_bytes s ws ms) ≤ length b → Appended b c at m (field_of (block s (length ws))) → m + length (run_bytes ws ms) ≤ length c
  runs_fit c m h p = omega (arith, whole-block, p.stop, p.size)

  pub block_out : (c d : List ℕ) (m e : ℕ) → Appended b c at m (field_of (block s (length ws))) → Appended c d m e (run_bytes ws ms) → Appended b d at e (block_bytes s ws ms)
  unfolding block_bytes
  block_out c d m e p q = appended-more p q

-- THE FIELDS OF EACH BLOCK

abbrev block_fields : ℕ × List Cell → List ℕ
block_fields b = field_of (block b.0 (length b.1)) ++ spell (run_items (runs_of b.1))

blocks-flat : (t : Table ℕ (List Cell)) → spell (block_items t) ≡ flat_map block_fields t
unfolding flat_map field_of
blocks-flat [] = refl
blocks-flat (b ∷ t) =
    spell-append (block b.0 (length b.1) ∷ run_items (runs_of b.1)) (block_items t)
    ∙ ap (λ (l : List ℕ). spell (block b.0 (length b.1) ∷ run_items (runs_of b.1)) ++ l) (blocks-flat t)

-- the cells of a part are the part of the cells
cells-part : (m n w : ℕ) (ws ms : List ℕ) → m + n ≤ w → w ≤ length ms → take n (drop m (tab w (cell_row ws ms))) ≡ cells_of (take n (drop m ws)) (take n (drop m ms))
unfolding cells_of
cells-part m n w ws ms h l =
    let t = tab w (cell_row ws ms) in
    let us = take n (drop m ws) in
    let ks = take n (drop m ms) in
    let a : length (take n (drop m t)) ≡ n = length-take-le n (drop m t) (omega (arith, length-drop m t, length-tab w (cell_row ws ms))) in
    let d : length ks ≡ n = length-take-le n (drop m ms) (omega (arith, length-drop m ms)) in
    let same : (i : ℕ) → i < length (take n (drop m t)) → get_or (take n (drop m t)) i unset ≡ get_or (tab (length ks) (cell_row us ks)) i unset = λ i j. (
    let p : get_or (take n (drop m t)) i unset ≡ cell_row ws ms (m + i) = get_or-take n (drop m t) i unset (omega arith) ∙ (get_or-drop m t i unset ∙ get_or-tab w (cell_row ws ms) (m + i) unset (omega arith)) in
    let q : get_or us i 0 ≡ get_or ws (m + i) 0 = get_or-take n (drop m ws) i 0 (omega arith) ∙ get_or-drop m ws i 0 in
    let r : get_or ks i 0 ≡ get_or ms (m + i) 0 = get_or-take n (drop m ms) i 0 (omega arith) ∙ get_or-drop m ms i 0 in
    p ∙ sym (get_or-tab (length ks) (cell_row us ks) i unset (omega arith) ∙ (rw (q, r) refl))) in
    ext_get_or unset (take n (drop m t)) (tab (length ks) (cell_row us ks)) (a ∙ sym (length-tab (length ks) (cell_row us ks) ∙ d)) same

block-text : (a m n w : ℕ) (ws ms : List ℕ) → m + n ≤ w → w ≤ length ws → w ≤ length ms → block_bytes a (take n (drop m ws)) (take n (drop m ms)) ≡ block_fields (a, take n (drop m (tab w (cell_row ws ms))))
unfolding block_bytes run_bytes
block-text a m n w ws ms h l j =
    let t = tab w (cell_row ws ms) in
    let s : length (take n (drop m ws)) ≡ length (take n (drop m t)) =
    length-take-le n (drop m ws) (omega (arith, length-drop m ws)) ∙ sym (length-take-le n (drop m t) (omega (arith, length-drop m t, length-tab w (cell_row ws ms)))) in
    rw (s, ← cells-part m n w ws ms h j) refl

-- PARTS, as the code asks for them: from first up to first and the size

part-is : (first size : ℕ) (l : List ℕ) → take (first + size - first) (drop first l) ≡ take size (drop first l)
part-is first size l = ap (λ (x : ℕ). take x (drop first l)) (let e : first + size - first ≡ size = omega arith in e)

part-size : (first size : ℕ) (l : List ℕ) → first + size ≤ length l → length (take (first + size - first) (drop first l)) ≡ size
part-size first size l h = ap length (part-is first size l) ∙ length-take-le size (drop first l) (omega (arith, length-drop first l))

part-marked : (w first size : ℕ) (ms : List ℕ) → MarksOk w ms → first + size ≤ w → Marked (take (first + size - first) (drop first ms))
part-marked w first size ms ok h = rw (part-is first size ms) (record { low = low })
  where
    low : (i : ℕ) → i < length (take size (drop first ms)) → get_or (take size (drop first ms)) i 0 ≤ 1
    low i l =
        let n : length (take size (drop first ms)) ≡ size = length-take-le size (drop first ms) (omega (arith, length-drop first ms, ok.room)) in
        let e : get_or (take size (drop first ms)) i 0 ≡ get_or ms (first + i) 0 = get_or-take size (drop first ms) i 0 (omega arith) ∙ get_or-drop first ms i 0 in
        rw e (ok.low (first + i) (omega arith))

pub marks-ok : (w : ℕ) (ws ms : List ℕ) → WordsOk w ws ms → MarksOk w ms
marks-ok w ws ms ok = record { room = ok.room_marks; low = λ i l. (ok.rows i l).mark }

-- all of them
all-fields : (n w : ℕ) (bs ws ms : List ℕ) → blocks_bytes n w bs ws ms ≡ flat_map block_fields (tab n (block_row (head_row bs) (tab w (cell_row ws ms))))
unfolding blocks_bytes view_blocks
all-fields n w bs ws ms =
    let row = block_row (head_row bs) (tab w (cell_row ws ms)) in
    ap (λ (t : Table ℕ (List Cell)). spell (block_items t)) (carve-tab n (head_row bs) (tab w (cell_row ws ms))) ∙ blocks-flat (tab n row)

few_words : (n w : ℕ) (bs : List ℕ) → BlocksOk n w bs → w ≤ n * 65024
few_words n w bs ok = rw ok.sum at (go n (omega arith))
  where
    go : (k : ℕ) → k ≤ n → sum_of (head_row bs) k ≤ k * 65024
    go zero l = omega arith
    go (suc k) l = omega (arith, go k (omega arith), (ok.rows k (omega arith)).low)

-- WRITTEN

pub record Blocked (n w : ℕ) (bs ws ms b₀ b : List ℕ) (at end first k : ℕ) : Type 0 where
  pub fields : Appended b₀ b at end (flat_map block_fields (tab k (block_row (head_row bs) (tab w (cell_row ws ms)))))
  pub here : first ≡ sum_of (head_row bs) k
  pub within : k ≤ n

module _ (n w : ℕ) (bs : List ℕ) (ok : BlocksOk n w bs) (first k size : ℕ) (here : first ≡ sum_of (head_row bs) k) (more : k < n) (q : size ≡ get_or bs (k * 2 + 1) 0) where
  -- the words of row k
  part_in : first + size ≤ w
  part_in = omega (arith, sum-grows (head_row bs) k n more, ok.sum)

  part-few : size ≤ 65024
  part-few = omega (arith, (ok.rows k more).low)

module _ (n w : ℕ) (bs ws ms b₀ : List ℕ) (at : ℕ) (ok : BlocksOk n w bs) (held : WordsOk w ws ms) (room : at + length (blocks_bytes n w bs ws ms) ≤ length b₀) where
  abbrev row : ℕ → ℕ × List Cell
  row = block_row (head_row bs) (tab w (cell_row ws ms))

  pub blocked-none : Blocked n w bs ws ms b₀ b₀ at at 0 0
  unfolding flat_map
  blocked-none = record { fields = appended-none b₀ at (omega arith); here = refl; within = omega arith }

  module _ (b : List ℕ) (end first k size : ℕ) (inv : Blocked n w bs ws ms b₀ b at end first k) (more : k < n) (q : size ≡ get_or bs (k * 2 + 1) 0) where
    pub part-words : first + size ≤ length ws
    part-words = omega (arith, part_in n w bs ok first k size inv.here more q, held.room_words)

    pub part-marks : first + size ≤ length ms
    part-marks = omega (arith, part_in n w bs ok first k size inv.here more q, held.room_marks)

    pub part-ready : CellsReady (take (first + size - first) (drop first ws)) (take (first + size - first) (drop first ms))
    part-ready = record {
      same = part-size first size ws part-words ∙ sym (part-size first size ms part-marks);
      few = omega (arith, part-size first size ms part-marks, part-few n w bs ok first k size inv.here more q);
      marked = part-marked w first size ms (marks-ok w ws ms held) (part_in n w bs ok first k size inv.here more q);
    }

    same_text : block_bytes (get_or bs (k * 2) 0) (take (first + size - first) (drop first ws)) (take (first + size - first) (drop first ms)) ≡ block_fields (row k)
    same_text =
        let z : take size (drop first (tab w (cell_row ws ms))) ≡ (row k).1 = rw (q, inv.here) refl in
        rw (part-is first size ws, part-is first size ms)
        (block-text (get_or bs (k * 2) 0) first size w ws ms (part_in n w bs ok first k size inv.here more q) held.room_words held.room_marks
        ∙ ap (λ (l : List Cell). block_fields (get_or bs (k * 2) 0, l)) z)

    pub part-fits : end + length (block_bytes (get_or bs (k * 2) 0) (take (first + size - first) (drop first ws)) (take (first + size - first) (drop first ms))) ≤ length b
    part-fits = rw same_text (omega (arith, rows_fit block_fields row k n more, inv.fields.stop, inv.fields.size, ap length (all-fields n w bs ws ms)))

    pub part-more : (c : List ℕ) (e : ℕ) → Appended b c end e (block_bytes (get_or bs (k * 2) 0) (take (first + size - first) (drop first ws)) (take (first + size - first) (drop first ms)))
        → Blocked n w bs ws ms b₀ c at e (first + size) (k + 1)
    part-more c e p = record {
      fields = rw (rows_more block_fields row k) (appended-more inv.fields (rw same_text at p));
      here = rw (add-one k) (rw (q, inv.here) refl);
      within = omega arith;
    }

  pub blocked-all : (b : List ℕ) (end first k : ℕ) → Blocked n w bs ws ms b₀ b at end first k → n ≤ k → Appended b₀ b at end (blocks_bytes n w bs ws ms)
  blocked-all b end first k inv h = let e : k ≡ n = omega (arith, inv.within) in rw (all-fields n w bs ws ms) (rw e at inv.fields)

-- ADDED UP

pub record BlocksSummed (n w : ℕ) (bs ms : List ℕ) (k first size : ℕ) : Type 0 where
  pub sum : (ws : List ℕ) → w ≤ length ws → length (flat_map block_fields (tab k (block_row (head_row bs) (tab w (cell_row ws ms))))) ≡ size
  pub small : size ≤ k * 7 + first * 5
  pub here : first ≡ sum_of (head_row bs) k
  pub within : k ≤ n

module _ (n w : ℕ) (bs ms : List ℕ) (ok : BlocksOk n w bs) (held : MarksOk w ms) where
  pub blocks-summed-none : BlocksSummed n w bs ms 0 0 0
  unfolding flat_map
  blocks-summed-none = record { sum = λ ws l. refl; small = omega arith; here = refl; within = omega arith }

  module _ (first k all size : ℕ) (inv : BlocksSummed n w bs ms k first all) (more : k < n) (q : size ≡ get_or bs (k * 2 + 1) 0) where
    pub sum-part : first + size ≤ length ms
    sum-part = omega (arith, part_in n w bs ok first k size inv.here more q, held.room)

    pub sum-few : length (take (first + size - first) (drop first ms)) ≤ 65024
    sum-few = omega (arith, part-size first size ms sum-part, part-few n w bs ok first k size inv.here more q)

    pub sum-marked : Marked (take (first + size - first) (drop first ms))
    sum-marked = part-marked w first size ms held (part_in n w bs ok first k size inv.here more q)

    fields-more : (r : ℕ) → RunsSized (take (first + size - first) (drop first ms)) r → (ws : List ℕ) → w ≤ length ws
        → length (flat_map block_fields (tab (k + 1) (block_row (head_row bs) (tab w (cell_row ws ms))))) ≡ all + (7 + r)
    fields-more r s ws l =
        let row = block_row (head_row bs) (tab w (cell_row ws ms)) in
        let us = take (first + size - first) (drop first ws) in
        let ks = take (first + size - first) (drop first ms) in
        let within = part_in n w bs ok first k size inv.here more q in
        let z : take size (drop first (tab w (cell_row ws ms))) ≡ (row k).1 = rw (q, inv.here) refl in
        let t : block_bytes (get_or bs (k * 2) 0) us ks ≡ block_fields (row k) =
        rw (part-is first size ws, part-is first size ms) (block-text (get_or bs (k * 2) 0) first size w ws ms within l held.room ∙ ap (λ (l : List Cell). block_fields (get_or bs (k * 2) 0, l)) z) in
        let y : length us ≡ length ks = part-size first size ws (omega arith) ∙ sym (part-size first size ms sum-part) in
        omega (arith, ap length (rows_more block_fields row k), length-append (flat_map block_fields (tab k row)) (block_fields (row k)), inv.sum ws l, ap length t, whole-block (get_or bs (k * 2) 0) 0 us ks [], length-block (get_or bs (k * 2) 0) (length us), s.size us y)

    pub blocks-summed-more : (r : ℕ) → RunsSized (take (first + size - first) (drop first ms)) r → BlocksSummed n w bs ms (k + 1) (first + size) (all + (7 + r))
    blocks-summed-more r s = record {
      sum = fields-more r s;
      small = omega (arith, inv.small, s.small, part-size first size ms sum-part);
      here = rw (add-one k) (rw (q, inv.here) refl);
      within = omega arith;
    }

    -- no sum wraps
    pub sum_fits : (r : ℕ) → RunsSized (take (first + size - first) (drop first ms)) r → all + (7 + r) ≤ 64 * 7 + 64 * 65024 * 5
    sum_fits r s = omega (arith, inv.small, s.small, part-size first size ms sum-part, part_in n w bs ok first k size inv.here more q, few_words n w bs ok, ok.few)

  pub blocks-summed-all : (first k size : ℕ) → BlocksSummed n w bs ms k first size → n ≤ k → BlocksSized n w bs ms size
  blocks-summed-all first k size inv h =
      let e : k ≡ n = omega (arith, inv.within) in
      record {
        size = λ ws l. ap length (all-fields n w bs ws ms) ∙ (rw e at (inv.sum ws l));
        small = let f : first ≡ w = inv.here ∙ (rw e ok.sum) in omega (arith, inv.small, few_words n w bs ok, ok.few);
      }
