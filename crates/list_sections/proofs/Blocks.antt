-- The text of each relocation and block of lent buffers, and what the loop over blocks keeps. Assumes nothing.
use Prim.Native.Nat.{ℕ, zero, suc, ◌+◌, ◌-◌, ◌*◌, ◌≤◌, ◌<◌}
use mathlib.Core.Path.{◌≡◌, refl, sym, ◌∙◌, ap}
use mathlib.Core.List.{List, ◌∷◌, ◌++◌, flat_map}
use native.Mathlib.Nat.{not-suc-le-zero, le_of_suc-le-suc, add-zero, zero-add}
use native.Mathlib.Decide.{dec_lt}
use native.Mathlib.Numerals.{add-one}
use native.Mathlib.Omega.{arith}
use lib.ListN.{length, take, drop, get_or, length-append, length-drop}
use lib.Seq.{drop-drop, length-take-le, get_or-take, get_or-drop}
use Rattle.rules.specs.Base.{bytes}
use Rattle.rules.specs.Tables.{Table}
use Rattle.rules.specs.Objects.{Cell}
use Rattle.rules.specs.Buffers.{tab, carve, sum_of, head_row, cell_row, name_row, reloc_row, view_blocks, BlocksOk, WordsOk}
use Rattle.rules.specs.Listing.{hex4, lf, reloc_line, word_lines, block_lines}
use Rattle.rules.proofs.Rows.{tab-ext, length-tab}
use Rattle.rules.proofs.Sound.{sum-front}
use Rattle.list_lines.specs.Appended.{Appended}
use Rattle.list_lines.specs.Lines.{cell_line, cell_lines, head_line}
use Rattle.list_lines.proofs.Appending.{appended-none, appended-more, rows_more, rows_fit}
use Rattle.list_sections.specs.Fronts.{reloc_front, block_text}

-- A RELOCATION
pub line-reloc : (rs ls ns : List ℕ) (k : ℕ) → reloc_line (reloc_row rs ls ns k) ≡ (reloc_front (get_or rs (k * 2) 0) ++ name_row ls ns (get_or rs (k * 2 + 1) 0)) ++ lf
unfolding reloc_line reloc_front
line-reloc rs ls ns k = refl

length-line : (u v : List ℕ) → length ((u ++ v) ++ lf) ≡ length u + (length v + 1)
length-line u v = length-append (u ++ v) lf ∙ (ap (λ (n : ℕ). n + 1) (length-append u v) ∙ (let e : length u + length v + 1 ≡ length u + (length v + 1) = omega arith in e))

module _ (rs ls ns : List ℕ) (k : ℕ) where
  pub fits-reloc : (a j at : ℕ) (b f n : List ℕ) → at + length (reloc_line (reloc_row rs ls ns k)) ≤ length b → a ≡ get_or rs (k * 2) 0 → f ≡ reloc_front a → j ≡ get_or rs (k * 2 + 1) 0 → n ≡ name_row ls ns j → at + (length f + (length n + 1)) ≤ length b
  fits-reloc a j at b f n h p q i r =
      let e : length (reloc_line (reloc_row rs ls ns k)) ≡ length f + (length n + 1) = ap length (line-reloc rs ls ns k) ∙ (rw (q, p, r, i) (length-line (reloc_front (get_or rs (k * 2) 0)) (name_row ls ns (get_or rs (k * 2 + 1) 0)))) in
      omega arith

  pub done-reloc : (a j at e : ℕ) (b c f n : List ℕ) → a ≡ get_or rs (k * 2) 0 → f ≡ reloc_front a → j ≡ get_or rs (k * 2 + 1) 0 → n ≡ name_row ls ns j → Appended b c at e ((f ++ n) ++ lf) → Appended b c at e (reloc_line (reloc_row rs ls ns k))
  done-reloc a j at e b c f n p q i r d = rw (line-reloc rs ls ns k) (rw (q, p, r, i) at d)

-- A BLOCK

-- block k of lent buffers
abbrev pub block_row : (ℕ → ℕ × ℕ) → List Cell → ℕ → ℕ × List Cell
block_row h cs k = ((h k).0, take (h k).1 (drop (sum_of h k) cs))

shift : (h : ℕ → ℕ × ℕ) (cs : List Cell) (k : ℕ) → block_row (λ i. h (suc i)) (drop (h 0).1 cs) k ≡ block_row h cs (suc k)
shift h cs k = ap (λ (x : List Cell). ((h (suc k)).0, take (h (suc k)).1 x)) (drop-drop (sum_of (λ i. h (suc i)) k) (h 0).1 cs ∙ ap (λ (n : ℕ). drop n cs) (sym (sum-front h k)))

-- the blocks by index
pub carve-tab : (n : ℕ) (h : ℕ → ℕ × ℕ) (cs : List Cell) → carve (tab n h) cs ≡ tab n (block_row h cs)
carve-tab zero h cs = refl
carve-tab (suc n) h cs = ap (λ (t : Table ℕ (List Cell)). ((h 0).0, take (h 0).1 cs) ∷ t) (carve-tab n (λ i. h (suc i)) (drop (h 0).1 cs) ∙ tab-ext n (block_row (λ i. h (suc i)) (drop (h 0).1 cs)) (λ k. block_row h cs (suc k)) (λ k l. shift h cs k))

-- the words by index
words-tab : (a n : ℕ) (c : ℕ → Cell) → word_lines a (tab n c) ≡ flat_map cell_line (tab n (λ k. (a + k, c k)))
unfolding word_lines flat_map cell_line
words-tab a zero c = refl
words-tab a (suc n) c =
    let z : a + 0 ≡ a = add-zero a in
    let t : word_lines (a + 1) (tab n (λ k. c (suc k))) ≡ flat_map cell_line (tab n (λ k. (a + suc k, c (suc k)))) =
    words-tab (a + 1) n (λ k. c (suc k)) ∙ ap (flat_map cell_line) (tab-ext n (λ k. (a + 1 + k, c (suc k))) (λ k. (a + suc k, c (suc k))) (λ k l. ap (λ (x : ℕ). (x, c (suc k))) (let e : a + 1 + k ≡ a + suc k = omega arith in e))) in
    rw (z, t)

front-tab : {A : Type 0} (n w : ℕ) (c : ℕ → A) → n ≤ w → take n (tab w c) ≡ tab n c
front-tab zero w c h = refl
front-tab (suc n) zero c h = absurd (not-suc-le-zero h)
front-tab (suc n) (suc w) c h = ap (λ (t : List _). c 0 ∷ t) (front-tab n w (λ k. c (suc k)) (le_of_suc-le-suc h))

part-tab : {A : Type 0} (m n w : ℕ) (c : ℕ → A) → m + n ≤ w → take n (drop m (tab w c)) ≡ tab n (λ k. c (m + k))
part-tab zero n w c h = front-tab n w c (omega arith) ∙ tab-ext n c (λ k. c (0 + k)) (λ k l. ap c (sym (zero-add k)))
part-tab (suc m) n zero c h = absurd (omega arith)
part-tab (suc m) n (suc w) c h = part-tab m n w (λ k. c (suc k)) (omega arith) ∙ tab-ext n (λ k. c (suc (m + k))) (λ k. c (suc m + k)) (λ k l. ap c (let e : suc (m + k) ≡ suc m + k = omega arith in e))

-- the cells of a part are the part of the cells
cells-part : (m n w : ℕ) (ws ms : List ℕ) → m + n ≤ w → take n (drop m (tab w (cell_row ws ms))) ≡ tab n (cell_row (take n (drop m ws)) (take n (drop m ms)))
cells-part m n w ws ms h =
    part-tab m n w (cell_row ws ms) h
    ∙ tab-ext n (λ k. cell_row ws ms (m + k)) (cell_row (take n (drop m ws)) (take n (drop m ms)))
    (λ k l. (let p : get_or (take n (drop m ws)) k 0 ≡ get_or ws (m + k) 0 = rw (get_or-take, get_or-drop) in let q : get_or (take n (drop m ms)) k 0 ≡ get_or ms (m + k) 0 = rw (get_or-take, get_or-drop) in rw (p, q)))

-- a block's lines are its text
text-block : (a m n w : ℕ) (ws ms : List ℕ) → m + n ≤ w → w ≤ length ws → block_text a (take n (drop m ws)) (take n (drop m ms)) ≡ block_lines (a, take n (drop m (tab w (cell_row ws ms))))
unfolding block_text block_lines head_line cell_lines
text-block a m n w ws ms h l =
    let s : length (take n (drop m ws)) ≡ n = length-take-le n (drop m ws) (omega (arith, length-drop m ws)) in
    let e = cells-part m n w ws ms h in
    let t : length (tab n (cell_row (take n (drop m ws)) (take n (drop m ms)))) ≡ n = length-tab n (cell_row (take n (drop m ws)) (take n (drop m ms))) in
    rw (s, e, t) (ap (λ (x : List ℕ). bytes "BLOCK " ++ hex4 a ++ bytes " " ++ hex4 n ++ lf ++ x) (sym (words-tab a n (cell_row (take n (drop m ws)) (take n (drop m ms))))))

-- a row's words lie in all
pub sum-grows : (h : ℕ → ℕ × ℕ) (k n : ℕ) → k < n → sum_of h k + (h k).1 ≤ sum_of h n
sum-grows h k zero l = absurd (not-suc-le-zero l)
sum-grows h k (suc n) l = go (dec_lt k n) (sum-grows h k n)
  where
    go : Dec (k < n) → (k < n → sum_of h k + (h k).1 ≤ sum_of h n) → sum_of h k + (h k).1 ≤ sum_of h n + (h n).1
    go (yes p) ih = let i = ih p in omega arith
    go (no p) ih = let e : k ≡ n = omega arith in rw e (omega arith)

pub record Blocked (n w : ℕ) (bs ws ms b₀ b : List ℕ) (at end first k : ℕ) : Type 0 where
  pub lines : Appended b₀ b at end (flat_map block_lines (tab k (block_row (head_row bs) (tab w (cell_row ws ms)))))
  pub here : first ≡ sum_of (head_row bs) k
  pub within : k ≤ n

module _ (n w : ℕ) (bs ws ms b₀ : List ℕ) (at : ℕ) (ok : BlocksOk n w bs) (held : WordsOk w ws ms) (room : at + length (flat_map block_lines (view_blocks n w bs ws ms)) ≤ length b₀) where
  pub blocked-none : Blocked n w bs ws ms b₀ b₀ at at 0 0
  unfolding flat_map
  blocked-none = record { lines = appended-none b₀ at (omega arith); here = refl; within = omega arith }

  all_room : at + length (flat_map block_lines (tab n (block_row (head_row bs) (tab w (cell_row ws ms))))) ≤ length b₀
  unfolding view_blocks
  all_room = rw (← carve-tab n (head_row bs) (tab w (cell_row ws ms))) room

  module _ (b : List ℕ) (end first k : ℕ) (inv : Blocked n w bs ws ms b₀ b at end first k) (more : k < n) where
    -- the words of row k
    pub words-in : first + get_or bs (k * 2 + 1) 0 ≤ w
    words-in = omega (arith, inv.here, sum-grows (head_row bs) k n more, ok.sum)

    pub in_words : first + get_or bs (k * 2 + 1) 0 ≤ length ws
    in_words = omega (arith, words-in, held.room_words)

    pub in-marks : first + get_or bs (k * 2 + 1) 0 ≤ length ms
    in-marks = omega (arith, words-in, held.room_marks)

    pub same_text : block_text (get_or bs (k * 2) 0) (take (get_or bs (k * 2 + 1) 0) (drop first ws)) (take (get_or bs (k * 2 + 1) 0) (drop first ms)) ≡ block_lines (block_row (head_row bs) (tab w (cell_row ws ms)) k)
    same_text = rw (← inv.here) (text-block (get_or bs (k * 2) 0) first (get_or bs (k * 2 + 1) 0) w ws ms words-in held.room_words)

    pub block-fits : end + length (block_text (get_or bs (k * 2) 0) (take (get_or bs (k * 2 + 1) 0) (drop first ws)) (take (get_or bs (k * 2 + 1) 0) (drop first ms))) ≤ length b
    block-fits = rw same_text (omega (arith, rows_fit block_lines (block_row (head_row bs) (tab w (cell_row ws ms))) k n more, inv.lines.stop, inv.lines.size, all_room))

    pub block-low : get_or bs (k * 2) 0 + get_or bs (k * 2 + 1) 0 ≤ 65024
    block-low = (ok.rows k more).low

    pub blocked-more : (c : List ℕ) (e : ℕ) → Appended b c end e (block_text (get_or bs (k * 2) 0) (take (get_or bs (k * 2 + 1) 0) (drop first ws)) (take (get_or bs (k * 2 + 1) 0) (drop first ms))) → Blocked n w bs ws ms b₀ c at e (first + get_or bs (k * 2 + 1) 0) (k + 1)
    blocked-more c e p = record {
      lines = rw (rows_more block_lines (block_row (head_row bs) (tab w (cell_row ws ms))) k) (appended-more inv.lines (rw same_text at p));
      here = rw (add-one k) (ap (λ (x : ℕ). x + get_or bs (k * 2 + 1) 0) inv.here);
      within = omega arith;
    }

  -- the same as the code writes a part: from first up to first and the size
  module _ (b : List ℕ) (end first k size : ℕ) (inv : Blocked n w bs ws ms b₀ b at end first k) (more : k < n) (q : size ≡ get_or bs (k * 2 + 1) 0) where
    abbrev Part : List ℕ → List ℕ
    Part l = take (first + size - first) (drop first l)

    whole : (l : List ℕ) → Part l ≡ take (get_or bs (k * 2 + 1) 0) (drop first l)
    whole l = ap (λ (x : ℕ). take x (drop first l)) ((let e : first + size - first ≡ size = omega arith in e) ∙ q)

    size_of : (l : List ℕ) → first + get_or bs (k * 2 + 1) 0 ≤ length l → length (Part l) ≡ size
    size_of l h = ap length (whole l) ∙ (length-take-le (get_or bs (k * 2 + 1) 0) (drop first l) (omega (arith, length-drop first l)) ∙ sym q)

    pub part-words : first + size ≤ length ws
    part-words = rw q (in_words b end first k inv more)

    pub part-marks : first + size ≤ length ms
    part-marks = rw q (in-marks b end first k inv more)

    pub part_low : get_or bs (k * 2) 0 + length (Part ws) ≤ 65024
    part_low = omega (arith, size_of ws (in_words b end first k inv more), block-low b end first k inv more)

    pub part_same : length (Part ws) ≡ length (Part ms)
    part_same = size_of ws (in_words b end first k inv more) ∙ sym (size_of ms (in-marks b end first k inv more))

    pub part-fits : end + length (block_text (get_or bs (k * 2) 0) (Part ws) (Part ms)) ≤ length b
    part-fits = rw (whole ws, whole ms) (block-fits b end first k inv more)

    pub part-more : (c : List ℕ) (e : ℕ) → Appended b c end e (block_text (get_or bs (k * 2) 0) (Part ws) (Part ms)) → Blocked n w bs ws ms b₀ c at e (first + size) (k + 1)
    part-more c e p = rw q (blocked-more b end first k inv more c e (rw (whole ws, whole ms) at p))

  pub blocked-all : (b : List ℕ) (end first k : ℕ) → Blocked n w bs ws ms b₀ b at end first k → n ≤ k → Appended b₀ b at end (flat_map block_lines (view_blocks n w bs ws ms))
  unfolding view_blocks
  blocked-all b end first k inv h = let e : k ≡ n = omega (arith, inv.within) in rw (carve-tab n (head_row bs) (tab w (cell_row ws ms))) (rw e at inv.lines)
