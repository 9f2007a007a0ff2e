-- What the loop of `settle_words` keeps: what is left of the relocations gives what all of them give. Assumes nothing.
use mathlib.Core.Path.{◌≡◌, refl, sym, ◌∙◌, ap}
use mathlib.Core.Bool.{Bool, true, false}
use mathlib.Core.List.{List, ◌∷◌}
use Prim.Native.Nat.{ℕ, zero, suc, ◌+◌, ◌-◌, ◌*◌, ◌≤◌, ◌<◌, suc-le-suc, zero-le}
use native.Mathlib.Nat.{not-suc-le-zero, le_of_suc-le-suc}
use native.Mathlib.Decide.{dec_lt}
use native.Mathlib.Numerals.{add-one}
use native.Mathlib.Omega.{arith}
use lib.ListN.{length, get_or, set, length-set}
use lib.Dec.{leb, eqb}
use borrow.Author.Tests.{lt-ltb, le-ltb, leb-true, leb-false, eq-eqb, ne_eqb}
use borrow.Author.Count.{below_more}
use Rattle.rules.specs.Base.{when◌then◌else◌}
use Rattle.rules.specs.Tables.{Table}
use Rattle.rules.specs.Buffers.{tab, head_row, end_of, sum_of}
use Rattle.rules.proofs.Merging.{rows_from, rows_all, rows_none, rows_next}
use Rattle.rules.proofs.Sound.{sum-front}
use Rattle.link_notes.specs.Notes.{open_mark, note_row, carried, carried_rows}
use Rattle.link_blocks.specs.Meeting.{BlockRows}
use Rattle.object.proofs.Blocks.{starts-up}
use Rattle.link_blocks.proofs.Filled.{sum-under}
use Rattle.link_words.specs.Settled.{ends_before, word_place, WordAt, place_of, settled_word, settled_words, SettleReady}

-- ONE WORD

pub word-open : (ws : List ℕ) (p a : ℕ) → a ≡ open_mark → ws ≡ settled_word ws p a
unfolding settled_word when◌then◌else◌
word-open ws p a e = sym (ap (λ (b : Bool). when b then ws else set ws p a) (eq-eqb a open_mark e))

pub word_set : (ws : List ℕ) (p a : ℕ) → (a ≡ open_mark → ⊥) → set ws p a ≡ settled_word ws p a
unfolding settled_word when◌then◌else◌
word_set ws p a n = sym (ap (λ (b : Bool). when b then ws else set ws p a) (ne_eqb a open_mark n))

-- as it is written
pub word-written : (ws : List ℕ) (p a w : ℕ) → w ≡ a → (a ≡ open_mark → ⊥) → set ws p w ≡ settled_word ws p a
word-written ws p a w e n = ap (set ws p) e ∙ word_set ws p a n

-- the note of a relocation's label
pub target_is : (rs notes : List ℕ) (k row r : ℕ) → row ≡ get_or rs (k * 2 + 1) 0 → r ≡ (note_row notes row).1 → r ≡ (carried rs notes k).1.1
target_is rs notes k row r e p = p ∙ ap (λ (x : ℕ). (note_row notes x).1) e

pub length-settled : (ws : List ℕ) (p a : ℕ) → length (settled_word ws p a) ≡ length ws
unfolding settled_word when◌then◌else◌
length-settled ws p a = go (eqb a open_mark)
  where
    go : (b : Bool) → length (when b then ws else set ws p a) ≡ length ws
    go true = refl
    go false = length-set ws p a

-- what the small functions answer
pub tells-end : (bs rs : List ℕ) (row k e x : ℕ) → e ≡ (head_row bs row).0 + (head_row bs row).1 → x ≡ get_or rs (k * 2) 0 → leb e x ≡ ends_before bs row rs k
unfolding ends_before
tells-end bs rs row k e x p q = λ i. leb (p i) (q i)

pub tells-place : (bs rs : List ℕ) (row passed k s x : ℕ) → x ≡ get_or rs (k * 2) 0 → s ≡ (head_row bs row).0 → passed + (x - s) ≡ word_place bs row passed rs k
unfolding word_place
tells-place bs rs row passed k s x p q = λ i. passed + (p i - q i)

-- THE PLACE

pub place_here : (h : ℕ × ℕ) (hs : Table ℕ ℕ) (x : ℕ) → x < h.0 + h.1 → place_of (h ∷ hs) x ≡ x - h.0
unfolding place_of when◌then◌else◌
place_here h hs x l = ap (λ (b : Bool). when b then x - h.0 else h.1 + place_of hs x) (lt-ltb x (h.0 + h.1) l)

pub place-there : (h : ℕ × ℕ) (hs : Table ℕ ℕ) (x : ℕ) → h.0 + h.1 ≤ x → place_of (h ∷ hs) x ≡ h.1 + place_of hs x
unfolding place_of when◌then◌else◌
place-there h hs x l = ap (λ (b : Bool). when b then x - h.0 else h.1 + place_of hs x) (le-ltb x (h.0 + h.1) l)

pub place-row : (n : ℕ) (h : ℕ → ℕ × ℕ) (k x : ℕ) → k < n → ((j : ℕ) → j < k → (h j).0 + (h j).1 ≤ x) → x < (h k).0 + (h k).1 → place_of (tab n h) x ≡ sum_of h k + (x - (h k).0)
place-row zero h k x l p q = absurd (not-suc-le-zero l)
place-row (suc n) h zero x l p q = place_here (h 0) (tab n (λ j. h (suc j))) x q ∙ (let e : x - (h 0).0 ≡ 0 + (x - (h 0).0) = omega arith in e)
place-row (suc n) h (suc k) x l p q =
    let i = place-row n (λ j. h (suc j)) k x (le_of_suc-le-suc l) (λ j m. p (suc j) (suc-le-suc m)) q in
    place-there (h 0) (tab n (λ j. h (suc j))) x (p 0 (suc-le-suc zero-le)) ∙ (let s = sum-front h k in omega (arith, i, s))

-- blocks that rise below xFE00 have no more words than there are addresses
sum-end : (n : ℕ) (bs : List ℕ) → BlockRows n bs → (k : ℕ) → k ≤ n → sum_of (head_row bs) k ≤ end_of 0 (head_row bs) k
sum-end n bs v zero l = omega arith
sum-end n bs v (suc k) l = let i = sum-end n bs v k (omega arith) in omega (arith, (v.rows k l).after)

sum_low : (n : ℕ) (bs : List ℕ) → BlockRows n bs → (k : ℕ) → k ≤ n → sum_of (head_row bs) k ≤ 65024
sum_low n bs v zero l = omega arith
sum_low n bs v (suc k) l = omega (arith, sum-end n bs v (suc k) l, (v.rows k l).low)

-- THE LOOP

pub record SettleTo (n : ℕ) (rs notes : List ℕ) (nb : ℕ) (bs ws₀ ws : List ℕ) (k row passed : ℕ) : Type 0 where
  pub ready : SettleReady n rs notes nb bs ws₀
  pub within : k ≤ n
  pub block : row ≤ nb
  pub count : passed ≡ sum_of (head_row bs) row
  pub few : passed ≤ length ws
  pub size : length ws ≡ length ws₀
  pub past : (j : ℕ) → j < row → k < n → (head_row bs j).0 + (head_row bs j).1 ≤ get_or rs (k * 2) 0
  pub same : settled_words (tab nb (head_row bs)) ws₀ (carried_rows n rs notes) ≡ settled_words (tab nb (head_row bs)) ws (rows_from k n (carried rs notes))

module _ {n nb : ℕ} {rs notes bs ws₀ : List ℕ} where
  pub settle-none : SettleReady n rs notes nb bs ws₀ → SettleTo n rs notes nb bs ws₀ ws₀ 0 0 0
  unfolding carried_rows
  settle-none r = record {
    ready = r;
    within = omega arith;
    block = omega arith;
    count = refl;
    few = omega arith;
    size = refl;
    past = λ j l. absurd (not-suc-le-zero l);
    same = ap (settled_words (tab nb (head_row bs)) ws₀) (sym (rows_all n (carried rs notes)));
  }

  module _ {ws : List ℕ} {k row passed : ℕ} (t : SettleTo n rs notes nb bs ws₀ ws k row passed) where
    pub settle-all : n ≤ k → ws ≡ settled_words (tab nb (head_row bs)) ws₀ (carried_rows n rs notes)
    unfolding settled_words
    settle-all h = sym (t.same ∙ ap (settled_words (tab nb (head_row bs)) ws) (rows_none k n (carried rs notes) h))

    module _ (h : k < n) where
      -- the block of the relocation is this row's or a later one
      ahead : row ≤ (t.ready.inside k h).row
      ahead = elim (dec_lt (t.ready.inside k h).row row) [
        | yes y ↦ absurd (let p = t.past (t.ready.inside k h).row y h in omega (arith, (t.ready.inside k h).to))
        | no y ↦ omega arith
      ]

      left : row < nb
      left = omega (arith, ahead, (t.ready.inside k h).within)

      pub fewer-left : (n - k) + (nb - (row + 1)) < (n - k) + (nb - row)
      fewer-left = omega (arith, left)

      pub row-there : row * 2 + 1 < length bs
      row-there = omega (arith, left, t.ready.rows.room)

      pub note-there : get_or rs (k * 2 + 1) 0 * 2 + 1 < length notes
      note-there = t.ready.noted k h

      pub target-low : {a : ℕ} → a ≡ (carried rs notes k).1.1 → a ≤ open_mark
      target-low e = rw e (t.ready.low k h)

      pub relocation-there : k * 2 + 1 < length rs
      relocation-there = omega (arith, t.ready.room)

      -- this row ends before it
      pub settle-on : {c : Bool} {s : ℕ} → c ≡ true → c ≡ ends_before bs row rs k → s ≡ (head_row bs row).1 → SettleTo n rs notes nb bs ws₀ ws k (row + 1) (passed + s)
      unfolding ends_before
      settle-on e p g =
          let l = leb-true ((head_row bs row).0 + (head_row bs row).1) (get_or rs (k * 2) 0) (sym p ∙ e) in
          record {
            ready = t.ready;
            within = t.within;
            block = omega (arith, left);
            count = rw (add-one row) (omega (arith, t.count));
            few = omega (arith, sum-under (head_row bs) nb row left, t.count, t.ready.held, t.size);
            size = t.size;
            past = below_more _ _ t.past (λ m. l);
            same = t.same;
          }

      module _ {c : Bool} (e : c ≡ false) (p : c ≡ ends_before bs row rs k) where
        -- or else it is the relocation's
        ends : get_or rs (k * 2) 0 < (head_row bs row).0 + (head_row bs row).1
        unfolding ends_before
        ends = leb-false ((head_row bs row).0 + (head_row bs row).1) (get_or rs (k * 2) 0) (sym p ∙ e)

        starts : (head_row bs row).0 ≤ get_or rs (k * 2) 0
        starts = elim (dec_lt row (t.ready.inside k h).row) [
          | yes y ↦ absurd (let u = starts-up nb bs t.ready.rows.rows (suc row) (t.ready.inside k h).row y (t.ready.inside k h).within in
              let v = (t.ready.rows.rows (suc row) (omega (arith, (t.ready.inside k h).within))).after in
              omega (arith, u, v, ends, (t.ready.inside k h).from))
          | no y ↦ (let z : (t.ready.inside k h).row ≡ row = omega (arith, ahead) in rw z at (t.ready.inside k h).from)
        ]

        pub word_in : WordAt bs row passed rs k
        word_in = record { block = row-there; relocation = relocation-there; start = starts; few = omega (arith, t.count, sum_low nb bs t.ready.rows row t.block) }

        pub word-there : {q : ℕ} → q ≡ word_place bs row passed rs k → q < length ws
        unfolding word_place
        word-there f = omega (arith, f, starts, ends, sum-under (head_row bs) nb row left, t.count, t.ready.held, t.size)

        pub settle-more : {a q : ℕ} {next : List ℕ} → next ≡ settled_word ws q a → q ≡ word_place bs row passed rs k → a ≡ (carried rs notes k).1.1 → SettleTo n rs notes nb bs ws₀ next (k + 1) row passed
        unfolding settled_words word_place
        settle-more {a} {q} {next} w g f =
            let at : place_of (tab nb (head_row bs)) (get_or rs (k * 2) 0) ≡ q =
            place-row nb (head_row bs) row (get_or rs (k * 2) 0) left (λ j m. t.past j m h) ends ∙ (ap (λ (y : ℕ). y + (get_or rs (k * 2) 0 - (head_row bs row).0)) (sym t.count) ∙ sym g) in
            let size : length next ≡ length ws = ap length w ∙ length-settled ws q a in
            record {
              ready = t.ready;
              within = omega arith;
              block = t.block;
              count = t.count;
              few = omega (arith, t.few);
              size = size ∙ t.size;
              past = λ j m r. (let u = t.past j m h in
                  let v = t.ready.up k (rw (add-one k) at r) in
                  rw (add-one k) (omega arith));
              same =
                  t.same
                  ∙ (ap (settled_words (tab nb (head_row bs)) ws) (rows_next k n (carried rs notes) h)
                  ∙ ap (λ (y : List ℕ). settled_words (tab nb (head_row bs)) y (rows_from (k + 1) n (carried rs notes)))
                  ((λ y. settled_word ws (at y) (sym f y)) ∙ sym w));
            }
