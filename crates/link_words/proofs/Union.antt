-- The blocks of two valid objects, merged and with the relocations of both settled, are the blocks of the rules' union. Assumes nothing.
use mathlib.Core.Path.{◌≡◌, refl, sym, ◌∙◌, ap}
use mathlib.Core.Bool.{false}
use mathlib.Core.Option.{Option, none, some}
use mathlib.Core.List.{List, [], ◌∷◌, ◌++◌, map}
use Prim.Native.Nat.{ℕ, zero, suc, ◌+◌, ◌*◌, ◌≤◌, ◌<◌, suc-le-suc, zero-le}
use native.Mathlib.Omega.{arith}
use lib.ListN.{length, get_or, length-map}
use Rattle.rules.specs.Tables.{Table, look, newer, Sorted, nat_order, name_order}
use Rattle.rules.specs.Objects.{Cell, word, Lab, outer, defined, Name, Counts, counts_of, cells, heads, flat}
use Rattle.rules.specs.Linking.{all_labels, all_relocs, patch, union}
use Rattle.rules.specs.Buffers.{Buffers, tab, head_row, reloc_row, name_row, view_blocks, view_labels, view_relocs, view, lay, head_cells, word_of, mark_of, RelocsOk, Valid, lay_blocks, lay_words, lay_marks}
use Rattle.rules.proofs.Tables.{look-merge}
use Rattle.rules.proofs.Rows.{sorted-tab, look-row, length-lay}
use Rattle.rules.proofs.Runs.{look-append}
use Rattle.rules.proofs.Chains.{total}
use Rattle.rules.proofs.Laid.{length-heads}
use Rattle.rules.proofs.Sound.{BlocksGood, labels-good}
use Rattle.link_notes.specs.Notes.{open_mark, address_in, Noted, carried, carried_rows}
use Rattle.link_blocks.specs.Meeting.{meeting}
use Rattle.link_blocks.specs.Merged.{both_blocks}
use Rattle.link_blocks.proofs.Both.{good-chain, both_first, both-second, both-apart, both-good, all_blocks_lem}
use Rattle.link_words.specs.Settled.{place_of, settled_word, settled_words, SettleReady}
use Rattle.link_words.proofs.Settling.{length-settled}
use Rattle.laws_link.proofs.Mapped.{join-newer}
use Rattle.laws_link.proofs.Union.{is_none, joined-low}
use Rattle.laws_link.proofs.Blocks.{turned, heads-turned}
use Rattle.link_words.proofs.Turned.{total-heads}
use Rattle.link_words.proofs.Round.{Carries, Small, AtZero, twice-words, twice-marks}
use Rattle.link_words.proofs.Laid.{rows-laid, laid-rows, laid-sum, laid-inside}

-- settling keeps a buffer's length
pub length-settled-words : (hs : Table ℕ ℕ) (ws : List ℕ) (rs : Table ℕ (ℕ × ℕ)) → length (settled_words hs ws rs) ≡ length ws
unfolding settled_words
length-settled-words hs ws [] = refl
length-settled-words hs ws (r ∷ rs) = length-settled-words hs (settled_word ws (place_of hs r.0) r.1.1) rs ∙ length-settled ws (place_of hs r.0) r.1.1

-- RELOCATIONS OF ONE OBJECT

carries-tab : (L : Name → Option Lab) (n : ℕ) (f : ℕ → ℕ × (ℕ × ℕ)) (g : ℕ → ℕ × Name) → ((k : ℕ) → k < n → (f k).0 ≡ (g k).0) → ((k : ℕ) → k < n → (f k).1.1 ≡ address_in (L (g k).1))
    → Carries L (tab n f) (tab n g)
carries-tab L zero f g p q = tt
carries-tab L (suc n) f g p q = (
  p 0 (suc-le-suc zero-le),
  q 0 (suc-le-suc zero-le),
  carries-tab L n (λ k. f (suc k)) (λ k. g (suc k)) (λ k l. p (suc k) (suc-le-suc l)) (λ k l. q (suc k) (suc-le-suc l)),
)

module _ {n nb w m : ℕ} {bs ws ms ls rs : List ℕ} (v : RelocsOk n nb w m bs ws ms ls rs) (names : List ℕ) where
  relocs-rise : Sorted nat_order (view_relocs n rs ls names)
  unfolding view_relocs
  relocs-rise = sorted-tab nat_order n (reloc_row rs ls names) (record { next = v.up })

  relocs-zero : AtZero (view_blocks nb w bs ws ms) (view_relocs n rs ls names)
  unfolding view_relocs
  relocs-zero x z q =
      let k = look-row nat_order n (reloc_row rs ls names) x z q in
      let e : get_or rs (k.0 * 2) 0 ≡ x = ap (λ (r : ℕ × Name). r.0) k.2 in
      rw (← e) (v.rows k.0 k.1).zero.at

  module _ {all : Table Name Lab} {notes : List ℕ} (t : Noted all ls names m notes) where
    relocs-carry : Carries (look name_order all) (carried_rows n rs notes) (view_relocs n rs ls names)
    unfolding view_relocs carried_rows
    relocs-carry =
        carries-tab (look name_order all) n (carried rs notes) (reloc_row rs ls names) (λ k l. refl) (λ k l. t.address (get_or rs (k * 2 + 1) 0) (v.rows k l).row)

    -- what `settle_words` asks, for blocks W that hold the object's words
    relocs-ready : {W : Table ℕ (List Cell)} {n' w' : ℕ} → Small (look name_order all) → BlocksGood W n' w'
        → ((x : ℕ) (c : Cell) → look nat_order (cells (view_blocks nb w bs ws ms)) x ≡ some c → look nat_order (cells W) x ≡ some c)
        → (blocks words : List ℕ) (len : ℕ) → blocks ≡ lay (head_cells (heads W)) len → n' * 2 ≤ len → w' ≤ length words → SettleReady n rs notes n' blocks words
    relocs-ready {W} small g keeps blocks words len e room held = record {
      room = v.room;
      noted = λ k l. omega (arith, (v.rows k l).row, t.room);
      low = λ k l. rw (t.address (get_or rs (k * 2 + 1) 0) (v.rows k l).row) (low (name_row ls names (get_or rs (k * 2 + 1) 0)) (look name_order all (name_row ls names (get_or rs (k * 2 + 1) 0))) refl);
      up = v.up;
      rows = laid-rows g blocks len e room;
      inside = λ k l. laid-inside g blocks len e (get_or rs (k * 2) 0) (word 0) (keeps (get_or rs (k * 2) 0) (word 0) (v.rows k l).zero.at);
      held = omega (arith, laid-sum g blocks len e);
    }
      where
        low : (s : Name) (o : Option Lab) → look name_order all s ≡ o → address_in o ≤ open_mark
        low s none p = omega arith
        low s (some outer) p = omega arith
        low s (some (defined a)) p = omega (arith, small s a p)

-- BOTH OBJECTS

module _ {c d : Counts} {x y : Buffers} (v : Valid c x) (u : Valid d y) (apart : meeting (tab c.blocks (head_row x.blocks)) (tab d.blocks (head_row y.blocks)) ≡ false) where
  -- the blocks of both, as `merge_blocks` lays them, and the labels of both
  abbrev both : Table ℕ (List Cell)
  both = both_blocks c.blocks c.words x.blocks x.words x.marks d.blocks d.words y.blocks y.words y.marks

  abbrev labels : Table Name Lab
  labels = all_labels (view c x) (view d y)

  good : BlocksGood both (c.blocks + d.blocks) (c.words + d.words)
  good = both-good x.words x.marks y.words y.marks v.blocks u.blocks apart

  pub labels-small : Small (look name_order labels)
  unfolding all_labels
  labels-small n a e =
      let g = labels-good c.labels x.labels x.names v.labels in
      let h = labels-good d.labels y.labels y.names u.labels in
      joined-low (view_labels c.labels x.labels x.names) (view_labels d.labels y.labels y.names) g.up h.up g.addresses h.addresses n a e

  -- there is room for the words of both where they are laid, and where some are settled
  pub words-held : (words : List ℕ) (len : ℕ) → words ≡ lay (map word_of (flat both)) len → c.words + d.words ≤ len → c.words + d.words ≤ length words
  words-held words len e room =
      rw e (rw (length-lay (map word_of (flat both)) len (rw (length-map (flat both) word_of) (omega (arith, good.words)))) room)

  pub settled-held : (words next : List ℕ) (hs : Table ℕ ℕ) (rs : Table ℕ (ℕ × ℕ)) → c.words + d.words ≤ length words → next ≡ settled_words hs words rs → c.words + d.words ≤ length next
  settled-held words next hs rs h e = rw (e, length-settled-words hs words rs) h

  -- `settle_words` may be called for the relocations of the first, and for those of the second
  pub settle-first : (notes blocks words : List ℕ) (len : ℕ) → Noted labels x.labels x.names c.labels notes → blocks ≡ lay (head_cells (heads both)) len
      → (c.blocks + d.blocks) * 2 ≤ len → c.words + d.words ≤ length words → SettleReady c.relocs x.relocs notes (c.blocks + d.blocks) blocks words
  settle-first notes blocks words len t e room held =
      relocs-ready v.relocs x.names t labels-small good (both_first x.words x.marks y.words y.marks v.blocks u.blocks apart) blocks words len e room held

  pub settle-second : (notes blocks words : List ℕ) (len : ℕ) → Noted labels y.labels y.names d.labels notes → blocks ≡ lay (head_cells (heads both)) len
      → (c.blocks + d.blocks) * 2 ≤ len → c.words + d.words ≤ length words → SettleReady d.relocs y.relocs notes (c.blocks + d.blocks) blocks words
  settle-second notes blocks words len t e room held =
      relocs-ready u.relocs y.names t labels-small good (both-second x.words x.marks y.words y.marks v.blocks u.blocks apart) blocks words len e room held

  -- RELOCATIONS OF BOTH

  abbrev first-relocs : Table ℕ Name
  first-relocs = view_relocs c.relocs x.relocs x.labels x.names

  abbrev second-relocs : Table ℕ Name
  second-relocs = view_relocs d.relocs y.relocs y.labels y.names

  first-zero : AtZero both first-relocs
  first-zero z n q = both_first x.words x.marks y.words y.marks v.blocks u.blocks apart z (word 0) (relocs-zero v.relocs x.names z n q)

  second-zero : AtZero both second-relocs
  second-zero z n q = both-second x.words x.marks y.words y.marks v.blocks u.blocks apart z (word 0) (relocs-zero u.relocs y.names z n q)

  relocs-apart : (z : ℕ) (n : Name) → look nat_order second-relocs z ≡ some n → look nat_order first-relocs z ≡ none
  relocs-apart z n q =
      is_none (look nat_order first-relocs z)
      (λ m p. both-apart x.words x.marks y.words y.marks v.blocks u.blocks apart z (word 0) (word 0) (relocs-zero v.relocs x.names z m p) (relocs-zero u.relocs y.names z n q))

  -- the rule, by one table behind the other and by both merged
  abbrev ruled : Table ℕ (List Cell)
  ruled = turned (λ z w. patch (look name_order labels) (look nat_order (first-relocs ++ second-relocs) z) w) both

  union-ruled : (union (view c x) (view d y)).blocks ≡ ruled
  unfolding union all_relocs
  union-ruled =
      (λ i. turned (λ z w. patch (look name_order labels) (look nat_order (all_relocs (view c x) (view d y)) z) w) (all_blocks_lem c d x y i))
      ∙ (λ i. turned (λ z w. patch (look name_order labels) (same z i) w) both)
    where
      same : (z : ℕ) → look nat_order (all_relocs (view c x) (view d y)) z ≡ look nat_order (first-relocs ++ second-relocs) z
      same z =
          look-merge nat_order newer first-relocs second-relocs (relocs-rise v.relocs x.names) (relocs-rise u.relocs y.names) z
          ∙ (join-newer (look nat_order first-relocs z) (look nat_order second-relocs z) ∙ sym (look-append nat_order first-relocs second-relocs z))

  -- THE LAWS

  -- after both rounds the words are the union's
  pub union-words : (na nb blocks w₀ w₁ w₂ : List ℕ) (len len' : ℕ) → Noted labels x.labels x.names c.labels na → Noted labels y.labels y.names d.labels nb
      → blocks ≡ lay (head_cells (heads both)) len' → w₀ ≡ lay (map word_of (flat both)) len
      → w₁ ≡ settled_words (tab (c.blocks + d.blocks) (head_row blocks)) w₀ (carried_rows c.relocs x.relocs na)
      → w₂ ≡ settled_words (tab (c.blocks + d.blocks) (head_row blocks)) w₁ (carried_rows d.relocs y.relocs nb)
      → w₂ ≡ lay_words (union (view c x) (view d y)) len
  unfolding lay_words
  union-words na nb blocks w₀ w₁ w₂ len len' s t e p q r =
      let hs : tab (c.blocks + d.blocks) (head_row blocks) ≡ heads both = rows-laid good blocks len' e in
      r
      ∙ ((λ i. settled_words (hs i) ((q ∙ (λ j. settled_words (hs j) (p j) (carried_rows c.relocs x.relocs na))) i) (carried_rows d.relocs y.relocs nb))
      ∙ (twice-words (look name_order labels) labels-small both (good-chain good) (carried_rows c.relocs x.relocs na) first-relocs (carried_rows d.relocs y.relocs nb) second-relocs
      (relocs-carry v.relocs x.names s) (relocs-carry u.relocs y.names t) (relocs-rise v.relocs x.names) (relocs-rise u.relocs y.names) first-zero second-zero relocs-apart len
      ∙ ap (λ (b : Table ℕ (List Cell)). lay (map word_of (flat b)) len) (sym union-ruled)))

  -- marks and rows are those of the merged blocks
  pub union-marks : (len : ℕ) → lay (map mark_of (flat both)) len ≡ lay_marks (union (view c x) (view d y)) len
  unfolding lay_marks
  union-marks len =
      ap (λ (l : List ℕ). lay l len)
      (sym (ap (λ (b : Table ℕ (List Cell)). map mark_of (flat b)) union-ruled ∙ twice-marks (look name_order labels) both good.cells_up first-relocs second-relocs first-zero second-zero))

  union-heads : heads (union (view c x) (view d y)).blocks ≡ heads both
  union-heads = ap heads union-ruled ∙ heads-turned (λ z w. patch (look name_order labels) (look nat_order (first-relocs ++ second-relocs) z) w) both

  pub union-blocks : (len : ℕ) → lay (head_cells (heads both)) len ≡ lay_blocks (union (view c x) (view d y)) len
  unfolding lay_blocks
  union-blocks len = ap (λ (h : Table ℕ ℕ). lay (head_cells h) len) (sym union-heads)

  -- and so are the counts
  pub union-block-count : (counts_of (union (view c x) (view d y))).blocks ≡ c.blocks + d.blocks
  union-block-count = sym (length-heads (union (view c x) (view d y)).blocks) ∙ (ap length union-heads ∙ (length-heads both ∙ good.count))

  pub union-word-count : (counts_of (union (view c x) (view d y))).words ≡ c.words + d.words
  union-word-count = sym (total-heads (union (view c x) (view d y)).blocks) ∙ (ap total union-heads ∙ (total-heads both ∙ good.words))
