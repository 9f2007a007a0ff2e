-- What was read, laid in six buffers, grows by a field: one law for each kind of field. Assumes nothing.
use mathlib.Core.Path.{◌≡◌, refl, sym, ◌∙◌, ap}
use mathlib.Core.Bool.{true}
use mathlib.Core.List.{List, [], ◌∷◌, ◌++◌, map, append_assoc, append-nil}
use Prim.Native.Nat.{ℕ, zero, suc, ◌+◌, ◌-◌, ◌*◌, ◌≤◌, ◌<◌}
use native.Mathlib.Omega.{arith}
use lib.ListN.{length, length-append, length-map, length-replicate}
use lib.Seq.{paste}
use Rattle.rules.specs.Tables.{Table}
use Rattle.rules.specs.Objects.{Cell, Lab, address_of, Name, nothing, flat, heads}
use Rattle.rules.specs.Buffers.{Buffers, six, zeros, lay, head_cells, word_of, mark_of, flag_of, name_bytes, row_of, reloc_cells, lay_blocks, lay_words, lay_marks, lay_labels, lay_relocs, lay_names, layout}
use Rattle.rules.specs.Stored.{Run, sets, gap, Item, fin, block, run, label, reloc, State, begin, held, size, free, after, words_then, unset_then, flatten, may, grown, next}
use Rattle.rules.proofs.Rows.{lay-more}
use Rattle.rules.proofs.Plain.{relocs-more}
use Rattle.rules.proofs.Fits.{length-reloc_cells}
use Rattle.laws_stored.proofs.Cut.{fits-some}
use Rattle.laws_stored.proofs.Taken.{MayBlock, MayRun, MayLabel, may-block, Along}
use Rattle.laws_stored.proofs.Written.{flatten-one, flatten-more}
use Rattle.base_buffers.specs.Rows.{with_row}
use Rattle.base_buffers.proofs.Pasted.{row_laid}
use Rattle.object_layout_labels.specs.Laying.{PutLabel}
use Rattle.object_layout_labels.proofs.Rows.{standing-more}
use Rattle.stored_put.specs.Laid.{opened, heads_so_far, cells_so_far, Laid, ones}
use Rattle.stored_put.proofs.Words.{length-ones}

-- LISTS LONGER BY ONE

flat-more : (t : Table ℕ (List Cell)) (b : ℕ × List Cell) → flat (t ++ (b ∷ [])) ≡ flat t ++ b.1
flat-more [] b = append-nil b.1
flat-more (e ∷ t) b = ap (λ (l : List Cell). e.1 ++ l) (flat-more t b) ∙ sym (append_assoc e.1 (flat t) b.1)

heads-more : (t : Table ℕ (List Cell)) (b : ℕ × List Cell) → head_cells (heads (t ++ (b ∷ []))) ≡ head_cells (heads t) ++ (b.0 ∷ length b.1 ∷ [])
heads-more [] b = refl
heads-more (e ∷ t) b = ap (λ (l : List ℕ). e.0 ∷ length e.1 ∷ l) (heads-more t b)

length-rows : (t : Table ℕ (List Cell)) → length (head_cells (heads t)) ≡ length t * 2
length-rows [] = refl
length-rows (e ∷ t) = let h = length-rows t in omega arith

words-then : (ws : List ℕ) (x y : List Cell) → words_then ws (x ++ y) ≡ words_then ws x ++ y
words-then [] x y = refl
words-then (w ∷ ws) x y = rw (words-then ws x y) refl

unset-then : (n : ℕ) (x y : List Cell) → unset_then n (x ++ y) ≡ unset_then n x ++ y
unset-then zero x y = refl
unset-then (suc n) x y = rw (unset-then n x y) refl

runs-more : (rs : List Run) (r : Run) → flatten (rs ++ (r ∷ [])) ≡ flatten rs ++ flatten (r ∷ [])
runs-more [] r = refl
runs-more (sets ws ∷ rs) r = rw (runs-more rs r) (words-then ws (flatten rs) (flatten (r ∷ [])))
runs-more (gap n ∷ rs) r = rw (runs-more rs r) (unset-then n (flatten rs) (flatten (r ∷ [])))

map-append : (f : Cell → ℕ) (x y : List Cell) → map f (x ++ y) ≡ map f x ++ map f y
map-append f [] y = refl
map-append f (c ∷ x) y = ap (λ (l : List ℕ). f c ∷ l) (map-append f x y)

-- the words and marks of one run
set_words : (ws : List ℕ) → map word_of (words_then ws []) ≡ ws
set_words [] = refl
set_words (w ∷ ws) = rw (set_words ws) refl

set-marks : (ws : List ℕ) → map mark_of (words_then ws []) ≡ ones (length ws)
unfolding ones
set-marks [] = refl
set-marks (w ∷ ws) = rw (set-marks ws) refl

unset-words : (n : ℕ) → map word_of (unset_then n []) ≡ zeros n
unset-words zero = refl
unset-words (suc n) = rw (unset-words n) refl

unset-marks : (n : ℕ) → map mark_of (unset_then n []) ≡ zeros n
unset-marks zero = refl
unset-marks (suc n) = rw (unset-marks n) refl

-- zeros behind what is laid are there already
zeros-add : (m n : ℕ) → zeros m ++ zeros n ≡ zeros (m + n)
zeros-add zero n = ap zeros (let e : n ≡ 0 + n = omega arith in e)
zeros-add (suc m) n = ap (λ (l : List ℕ). 0 ∷ l) (zeros-add m n) ∙ ap zeros (let e : suc (m + n) ≡ suc m + n = omega arith in e)

lay-zeros : (l : List ℕ) (n len : ℕ) → length l + n ≤ len → lay (l ++ zeros n) len ≡ lay l len
lay-zeros l n len h =
    let z : length (l ++ zeros n) ≡ length l + n = length-append l (zeros n) ∙ ap (λ (k : ℕ). length l + k) (length-replicate n 0) in
    let e : n + (len - length (l ++ zeros n)) ≡ len - length l = omega arith in
    append_assoc l (zeros n) (zeros (len - length (l ++ zeros n))) ∙ ap (λ (u : List ℕ). l ++ u) (zeros-add n (len - length (l ++ zeros n)) ∙ ap zeros e)

-- THE STATE

module _ (s : State) where
  heads-block : (a n : ℕ) → MayBlock s a n → heads_so_far (next s (block a n)) ≡ heads_so_far s ++ (a ∷ n ∷ [])
  unfolding next heads_so_far
  heads-block a zero m = absurd (omega (arith, m.words))
  heads-block a (suc n) m = rw m.closed (ap (λ (l : List ℕ). l ++ (a ∷ suc n ∷ [])) (sym (append-nil (head_cells (heads s.blocks)))))

  length-heads : s.owed ≡ 0 → length (heads_so_far s) ≡ length s.blocks * 2
  unfolding heads_so_far
  length-heads e = rw e (ap length (append-nil (head_cells (heads s.blocks))) ∙ length-rows s.blocks)

  cells-block : (a n : ℕ) → s.runs ≡ [] → cells_so_far (next s (block a n)) ≡ cells_so_far s
  unfolding next cells_so_far
  cells-block a n e = rw e refl

  pub cells-run : (r : Run) → cells_so_far (next s (run r)) ≡ cells_so_far s ++ flatten (r ∷ [])
  unfolding next cells_so_far
  cells-run r = go (s.owed - size r)
    where
      behind : flat s.blocks ++ flatten (s.runs ++ (r ∷ [])) ≡ (flat s.blocks ++ flatten s.runs) ++ flatten (r ∷ [])
      behind = ap (λ (l : List Cell). flat s.blocks ++ l) (runs-more s.runs r) ∙ sym (append_assoc (flat s.blocks) (flatten s.runs) (flatten (r ∷ [])))

      go : (k : ℕ) → flat (grown s (s.runs ++ (r ∷ [])) k).blocks ++ flatten (grown s (s.runs ++ (r ∷ [])) k).runs ≡ (flat s.blocks ++ flatten s.runs) ++ flatten (r ∷ [])
      go zero = append-nil (flat (s.blocks ++ ((s.start, flatten (s.runs ++ (r ∷ []))) ∷ []))) ∙ (flat-more s.blocks (s.start, flatten (s.runs ++ (r ∷ []))) ∙ behind)
      go (suc k) = behind

  heads-run : (r : Run) → Along s → MayRun s r → heads_so_far (next s (run r)) ≡ heads_so_far s
  unfolding next heads_so_far
  heads-run r v m = go (s.owed - size r) refl s.owed refl
    where
      p : 0 < size r
      p = fits-some (after free s.runs) r m.follows

      go : (k : ℕ) → s.owed - size r ≡ k → (w : ℕ) → s.owed ≡ w
          → head_cells (heads (grown s (s.runs ++ (r ∷ [])) (s.owed - size r)).blocks) ++ opened (grown s (s.runs ++ (r ∷ [])) (s.owed - size r)).owed (grown s (s.runs ++ (r ∷ [])) (s.owed - size r)).start (grown s (s.runs ++ (r ∷ [])) (s.owed - size r)).total
          ≡ head_cells (heads s.blocks) ++ opened s.owed s.start s.total
      go k e zero q = absurd (omega (arith, p, m.owed))
      go zero e (suc w) q =
          let t : length (flatten (s.runs ++ (r ∷ []))) ≡ s.total = omega (arith, m.owed, flatten-more s.runs r, v.sum (omega arith)) in
          rw (e, q) (append-nil (head_cells (heads (s.blocks ++ ((s.start, flatten (s.runs ++ (r ∷ []))) ∷ [])))) ∙ (heads-more s.blocks (s.start, flatten (s.runs ++ (r ∷ []))) ∙ ap (λ (n : ℕ). head_cells (heads s.blocks) ++ (s.start ∷ n ∷ [])) t))
      go (suc k) e (suc w) q = rw (e, q) refl

  pub length-cells : (r : Run) → length (cells_so_far (next s (run r))) ≡ length (cells_so_far s) + size r
  length-cells r = ap length (cells-run r) ∙ (length-append (cells_so_far s) (flatten (r ∷ [])) ∙ omega (arith, flatten-one r []))

-- words do not become fewer
pub cells-rise : (s : State) (i : Item) → (s.owed ≡ 0 → s.runs ≡ []) → may s i ≡ true → length (cells_so_far s) ≤ length (cells_so_far (next s i))
unfolding next cells_so_far
cells-rise s fin z m = omega arith
cells-rise s (block a n) z m = rw (cells-block s a n (z (may-block s a n m).closed)) (omega arith)
cells-rise s (run r) z m = omega (arith, length-cells s r)
cells-rise s (label n v) z m = omega arith
cells-rise s (reloc a n) z m = omega arith

-- THE BUFFERS

module _ {s : State} {out x : Buffers} (l : Laid s out x) where
  pub laid-block : (a n k : ℕ) (bs : List ℕ) → MayBlock s a n → s.runs ≡ [] → k ≡ length s.blocks → k * 2 + 1 < length out.blocks → bs ≡ with_row x.blocks k a n
      → Laid (next s (block a n)) out (six bs x.words x.marks x.labels x.relocs x.names)
  unfolding next
  laid-block a n k bs m e d r q =
      let c = cells-block s a n e in
      record {
        blocks = q
            ∙ (ap (λ (u : List ℕ). with_row u k a n) l.blocks
            ∙ (row_laid (heads_so_far s) (length out.blocks) k a n (length-heads s m.closed ∙ ap (λ (i : ℕ). i * 2) (sym d)) r
            ∙ ap (λ (u : List ℕ). lay u (length out.blocks)) (sym (heads-block s a n m))));
        words = rw c l.words;
        marks = rw c l.marks;
        labels = l.labels;
        relocs = l.relocs;
        names = l.names;
      }

  -- what is written behind the words and marks
  words_more : (r : Run) (k n : ℕ) (ws : List ℕ) → map word_of (flatten (r ∷ [])) ≡ ws → n ≡ length ws → k ≡ length (cells_so_far s) → k + n ≤ length out.words
      → paste x.words k ws n ≡ lay (map word_of (cells_so_far (next s (run r)))) (length out.words)
  words_more r k n ws e d c h =
      let f : map word_of (cells_so_far s) ++ ws ≡ map word_of (cells_so_far (next s (run r))) =
      ap (λ (u : List ℕ). map word_of (cells_so_far s) ++ u) (sym e) ∙ (sym (map-append word_of (cells_so_far s) (flatten (r ∷ []))) ∙ ap (map word_of) (sym (cells-run s r))) in
      let z : k ≡ length (map word_of (cells_so_far s)) = c ∙ sym (length-map (cells_so_far s) word_of) in
      rw (l.words, z, d) (lay-more (map word_of (cells_so_far s)) ws (length out.words) (omega arith) ∙ ap (λ (u : List ℕ). lay u (length out.words)) f)

  marks-more : (r : Run) (k n : ℕ) (ms : List ℕ) → map mark_of (flatten (r ∷ [])) ≡ ms → n ≡ length ms → k ≡ length (cells_so_far s) → k + n ≤ length out.marks
      → paste x.marks k ms n ≡ lay (map mark_of (cells_so_far (next s (run r)))) (length out.marks)
  marks-more r k n ms e d c h =
      let f : map mark_of (cells_so_far s) ++ ms ≡ map mark_of (cells_so_far (next s (run r))) =
      ap (λ (u : List ℕ). map mark_of (cells_so_far s) ++ u) (sym e) ∙ (sym (map-append mark_of (cells_so_far s) (flatten (r ∷ []))) ∙ ap (map mark_of) (sym (cells-run s r))) in
      let z : k ≡ length (map mark_of (cells_so_far s)) = c ∙ sym (length-map (cells_so_far s) mark_of) in
      rw (l.marks, z, d) (lay-more (map mark_of (cells_so_far s)) ms (length out.marks) (omega arith) ∙ ap (λ (u : List ℕ). lay u (length out.marks)) f)

  -- a run leaves labels and relocations as they are
  run-labels : (r : Run) → (next s (run r)).labels ≡ s.labels
  unfolding next
  run-labels r = go (s.owed - size r)
    where
      go : (k : ℕ) → (grown s (s.runs ++ (r ∷ [])) k).labels ≡ s.labels
      go zero = refl
      go (suc k) = refl

  run-relocs : (r : Run) → (next s (run r)).relocs ≡ s.relocs
  unfolding next
  run-relocs r = go (s.owed - size r)
    where
      go : (k : ℕ) → (grown s (s.runs ++ (r ∷ [])) k).relocs ≡ s.relocs
      go zero = refl
      go (suc k) = refl

  laid-run : (r : Run) (ws ms : List ℕ) → Along s → MayRun s r → ws ≡ lay (map word_of (cells_so_far (next s (run r)))) (length out.words) → ms ≡ lay (map mark_of (cells_so_far (next s (run r)))) (length out.marks)
      → Laid (next s (run r)) out (six x.blocks ws ms x.labels x.relocs x.names)
  laid-run r ws ms v m p q =
      let a = run-labels r in
      let b = run-relocs r in
      record {
        blocks = rw (heads-run s r v m) l.blocks;
        words = p;
        marks = q;
        labels = rw a l.labels;
        relocs = rw (a, b) l.relocs;
        names = rw a l.names;
      }

  pub laid-sets : (ws : List ℕ) (k n : ℕ) (ws' ms' : List ℕ) → Along s → MayRun s (sets ws) → n ≡ length ws → k ≡ length (cells_so_far s) → k + n ≤ length out.words → k + n ≤ length out.marks
      → ws' ≡ paste x.words k ws n → ms' ≡ paste x.marks k (ones n) n → Laid (next s (run (sets ws))) out (six x.blocks ws' ms' x.labels x.relocs x.names)
  laid-sets ws k n ws' ms' v m d c h g p q =
      laid-run (sets ws) ws' ms' v m (p ∙ words_more (sets ws) k n ws (set_words ws) d c h)
      (q ∙ marks-more (sets ws) k n (ones n) (set-marks ws ∙ ap ones (sym d)) (sym (length-ones n)) c g)

  -- unset words are there already
  pub laid-gap : (n : ℕ) → Along s → MayRun s (gap n) → length (cells_so_far s) + n ≤ length out.words → length (cells_so_far s) + n ≤ length out.marks → Laid (next s (run (gap n))) out x
  laid-gap n v m h g =
      let p : lay (map word_of (cells_so_far (next s (run (gap n))))) (length out.words) ≡ lay (map word_of (cells_so_far s)) (length out.words) =
      ap (λ (u : List ℕ). lay u (length out.words)) (ap (map word_of) (cells-run s (gap n)) ∙ (map-append word_of (cells_so_far s) (unset_then n []) ∙ ap (λ (u : List ℕ). map word_of (cells_so_far s) ++ u) (unset-words n)))
      ∙ lay-zeros (map word_of (cells_so_far s)) n (length out.words) (omega (arith, length-map (cells_so_far s) word_of)) in
      let q : lay (map mark_of (cells_so_far (next s (run (gap n))))) (length out.marks) ≡ lay (map mark_of (cells_so_far s)) (length out.marks) =
      ap (λ (u : List ℕ). lay u (length out.marks)) (ap (map mark_of) (cells-run s (gap n)) ∙ (map-append mark_of (cells_so_far s) (unset_then n []) ∙ ap (λ (u : List ℕ). map mark_of (cells_so_far s) ++ u) (unset-marks n)))
      ∙ lay-zeros (map mark_of (cells_so_far s)) n (length out.marks) (omega (arith, length-map (cells_so_far s) mark_of)) in
      laid-run (gap n) x.words x.marks v m (l.words ∙ sym p) (l.marks ∙ sym q)

  pub laid-label : (n : Name) (u : Lab) (k at r : ℕ) (ls ns : List ℕ) → MayLabel s n → k ≡ length s.labels → at ≡ length (name_bytes s.labels) → k * 4 + 4 ≤ length out.labels → at + length n ≤ length out.names
      → PutLabel x.labels x.names ls ns k at (address_of u) (flag_of u) n r → Laid (next s (label n u)) out (six x.blocks x.words x.marks ls x.relocs ns)
  unfolding next heads_so_far cells_so_far
  laid-label n u k at r ls ns m d c h g p =
      let t = standing-more s.labels out.labels out.names x.labels x.names ls ns k at r (n, u) (record { count = sym d; end = sym c; rows = l.labels; names = l.names }) p h g in
      record {
        blocks = l.blocks;
        words = l.words;
        marks = l.marks;
        labels = t.rows;
        relocs = l.relocs ∙ rw m.no-relocs refl;
        names = t.names;
      }

  pub laid-reloc : (a : ℕ) (n : Name) (k j : ℕ) (rs : List ℕ) → k ≡ length s.relocs → j ≡ row_of s.labels n → k * 2 + 1 < length out.relocs → rs ≡ with_row x.relocs k a j
      → Laid (next s (reloc a n)) out (six x.blocks x.words x.marks x.labels rs x.names)
  unfolding next heads_so_far cells_so_far
  laid-reloc a n k j rs d e h q = record {
    blocks = l.blocks;
    words = l.words;
    marks = l.marks;
    labels = l.labels;
    relocs = q
        ∙ (ap (λ (u : List ℕ). with_row u k a j) l.relocs
        ∙ (row_laid (reloc_cells s.labels s.relocs) (length out.relocs) k a j (length-reloc_cells s.labels s.relocs ∙ ap (λ (i : ℕ). i * 2) (sym d)) h
        ∙ ap (λ (u : List ℕ). lay u (length out.relocs)) (ap (λ (i : ℕ). reloc_cells s.labels s.relocs ++ (a ∷ i ∷ [])) e ∙ sym (relocs-more s.labels s.relocs (a, n)))));
    names = l.names;
  }

-- AT THE BEGINNING AND AT THE END

pub laid-begin : (out x : Buffers) → x ≡ layout nothing out → Laid begin out x
unfolding heads_so_far cells_so_far lay_blocks lay_words lay_marks lay_labels lay_relocs lay_names
laid-begin out x e = rw e (record { blocks = refl; words = refl; marks = refl; labels = refl; relocs = refl; names = refl })

pub laid-whole : (s : State) (out x : Buffers) → Laid s out x → s.owed ≡ 0 → s.runs ≡ [] → x ≡ layout (held s) out
unfolding heads_so_far cells_so_far lay_blocks lay_words lay_marks lay_labels lay_relocs lay_names
laid-whole s out x l o r =
    let b : x.blocks ≡ lay (head_cells (heads s.blocks)) (length out.blocks) =
    l.blocks ∙ rw o (ap (λ (u : List ℕ). lay u (length out.blocks)) (append-nil (head_cells (heads s.blocks)))) in
    let f : flat s.blocks ++ flatten s.runs ≡ flat s.blocks = rw r (append-nil (flat s.blocks)) in
    let w : x.words ≡ lay (map word_of (flat s.blocks)) (length out.words) = l.words ∙ ap (λ (u : List Cell). lay (map word_of u) (length out.words)) f in
    let m : x.marks ≡ lay (map mark_of (flat s.blocks)) (length out.marks) = l.marks ∙ ap (λ (u : List Cell). lay (map mark_of u) (length out.marks)) f in
    λ i. six (b i) (w i) (m i) (l.labels i) (l.relocs i) (l.names i)
