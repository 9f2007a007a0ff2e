-- What the loops of `fill_rows`, `fill_words` and `fill_marks` keep. Assumes nothing.
use mathlib.Core.Path.{◌≡◌, refl, sym, ◌∙◌, ap}
use mathlib.Core.Bool.{Bool, true, false}
use mathlib.Core.List.{List}
use Prim.Native.Nat.{ℕ, zero, suc, ◌+◌, ◌-◌, ◌*◌, ◌≤◌, ◌<◌}
use native.Mathlib.Decide.{dec_lt}
use native.Mathlib.Numerals.{add-one}
use native.Mathlib.Omega.{arith}
use lib.ListN.{length, take, drop, length-drop}
use lib.Seq.{paste, length-take-le}
use Rattle.rules.specs.Tables.{nat_order}
use Rattle.rules.specs.Buffers.{Up, head_row, sum_of, lay}
use Rattle.link_blocks.specs.Meeting.{BlockRows}
use Rattle.link_blocks.specs.Merged.{part, row_part, word_part, merged_rows, merged_parts, first_next, RowsReady, PartsReady}
use Rattle.link_blocks.proofs.Filling.{Filling, filling-none, filling-size, filling-first, filling-second, filling-all, next_row, next_low, other_row, other-low}

pub length_part : {A : Type 0} (from n : ℕ) (l : List A) → from + n ≤ length l → length (part from n l) ≡ n
unfolding part
length_part from n l h = length-take-le n (drop from l) (omega (arith, length-drop from l))

-- a copied part
pub copied : {A : Type 0} (dst res src : List A) (at from n to : ℕ) → to ≡ from + n → from + n ≤ length src
    → res ≡ paste dst at (take (to - from) (drop from src)) (length (take (to - from) (drop from src))) → res ≡ paste dst at (part from n src) n
unfolding part
copied dst res src at from n to e h p =
    let k : to - from ≡ n = omega arith in
    p ∙ ((λ x. paste dst at (take (k x) (drop from src)) (length (take (k x) (drop from src)))) ∙ ap (paste dst at (take n (drop from src))) (length_part from n src h))

-- rows with rising starts
pub up-rows : {U : Type 0} (n : ℕ) (bs : List ℕ) (g : ℕ → U) → BlockRows n bs → Up nat_order n (λ k. ((head_row bs k).0, g k))
up-rows n bs g v = record { next = λ k l. (let p = (v.rows (suc k) l).after in let q = (v.rows k (omega arith)).filled in omega arith) }

pub sum-under : (h : ℕ → ℕ × ℕ) (n k : ℕ) → k < n → sum_of h k + (h k).1 ≤ sum_of h n
sum-under h zero k l = absurd (omega arith)
sum-under h (suc n) k l = elim (dec_lt k n) [
  | yes p ↦ (let q = sum-under h n k p in omega arith)
  | no p ↦ (let e : k ≡ n = omega arith in rw e (omega arith))
]

-- ROWS

pub record RowsTo (na : ℕ) (a : List ℕ) (nb : ℕ) (b blocks₀ blocks : List ℕ) (i j : ℕ) : Type 0 where
  pub ready : RowsReady na a nb b blocks₀
  pub first : i ≤ na
  pub second : j ≤ nb
  pub room : (na + nb) * 2 ≤ length blocks
  pub size : length blocks ≡ length blocks₀
  pub state : Filling na (row_part a) nb (row_part b) (length blocks₀) i j ((i + j) * 2) blocks

module _ {na nb : ℕ} {a b blocks₀ : List ℕ} where
  module _ (r : RowsReady na a nb b blocks₀) where
    up_first : Up nat_order na (row_part a)
    up_first = up-rows na a (λ k. part (k * 2) 2 a) r.tables.rows

    up_second : Up nat_order nb (row_part b)
    up_second = up-rows nb b (λ k. part (k * 2) 2 b) r.tables.others

    pub rows_none : RowsTo na a nb b blocks₀ blocks₀ 0 0
    rows_none = record {
      ready = r;
      first = omega arith;
      second = omega arith;
      room = r.room;
      size = refl;
      state = filling-none up_first up_second blocks₀ r.blank;
    }

  module _ {blocks : List ℕ} {i j : ℕ} (t : RowsTo na a nb b blocks₀ blocks i j) where
    -- the next row of the one table stands there, and there is room for it
    pub row-held : {c : Bool} → c ≡ true → c ≡ first_next na a nb b i j → i * 2 + 2 ≤ length a
    row-held e p = omega (arith, next_row na a nb b i j e p, t.ready.tables.rows.room)

    pub row_room : {c : Bool} → c ≡ true → c ≡ first_next na a nb b i j → (i + j) * 2 + 2 ≤ length blocks
    row_room e p = omega (arith, next_row na a nb b i j e p, t.second, t.room)

    -- and of the other
    pub other_held : {c : Bool} → c ≡ false → c ≡ first_next na a nb b i j → i + j < na + nb → j * 2 + 2 ≤ length b
    other_held e p m = omega (arith, other_row na a nb b i j e p m t.first, t.ready.tables.others.room)

    pub other-room : i + j < na + nb → (i + j) * 2 + 2 ≤ length blocks
    other-room m = omega (arith, t.room)

    pub rows-first : {c : Bool} {next : List ℕ} → c ≡ true → c ≡ first_next na a nb b i j → next ≡ paste blocks ((i + j) * 2) (part (i * 2) 2 a) 2 → RowsTo na a nb b blocks₀ next (i + 1) j
    rows-first {c} {next} e p q =
        let l : i < na = next_row na a nb b i j e p in
        let f : Filling na (row_part a) nb (row_part b) (length blocks₀) (i + 1) j ((i + j) * 2 + 2) next =
        filling-first (up_first t.ready) (up_second t.ready) t.state 2 next l (next_low na a nb b i j e p) (length_part (i * 2) 2 a (omega (arith, t.ready.tables.rows.room))) (omega (arith, t.ready.room, t.second)) q in
        record {
          ready = t.ready;
          first = omega arith;
          second = t.second;
          room = omega (arith, t.ready.room, filling-size (up_first t.ready) (up_second t.ready) f);
          size = filling-size (up_first t.ready) (up_second t.ready) f;
          state = rw (let w : (i + j) * 2 + 2 ≡ (i + 1 + j) * 2 = omega arith in w) at f;
        }

    pub rows-second : {c : Bool} {next : List ℕ} → c ≡ false → c ≡ first_next na a nb b i j → i + j < na + nb → next ≡ paste blocks ((i + j) * 2) (part (j * 2) 2 b) 2 → RowsTo na a nb b blocks₀ next i (j + 1)
    rows-second {c} {next} e p m q =
        let l : j < nb = other_row na a nb b i j e p m t.first in
        let f : Filling na (row_part a) nb (row_part b) (length blocks₀) i (j + 1) ((i + j) * 2 + 2) next =
        filling-second (up_first t.ready) (up_second t.ready) t.state 2 next l (other-low na a nb b i j e p t.ready.tables l) (length_part (j * 2) 2 b (omega (arith, t.ready.tables.others.room))) (omega (arith, t.ready.room, t.first)) q in
        record {
          ready = t.ready;
          first = t.first;
          second = omega arith;
          room = omega (arith, t.ready.room, filling-size (up_first t.ready) (up_second t.ready) f);
          size = filling-size (up_first t.ready) (up_second t.ready) f;
          state = rw (let w : (i + j) * 2 + 2 ≡ (i + (j + 1)) * 2 = omega arith in w) at f;
        }

    pub rows_all : na + nb ≤ i + j → blocks ≡ lay (merged_rows na a nb b) (length blocks₀)
    unfolding merged_rows
    rows_all m = filling-all (up_first t.ready) (up_second t.ready) t.state (omega (arith, t.first, t.second)) (omega (arith, t.first, t.second))

-- WORDS, AND MARKS

-- p cells of the one buffer and q of the other are out
pub record PartsTo (na : ℕ) (a aw : List ℕ) (nb : ℕ) (b bw buffer₀ buffer : List ℕ) (i j p q : ℕ) : Type 0 where
  pub ready : PartsReady na a aw nb b bw buffer₀
  pub first : i ≤ na
  pub second : j ≤ nb
  pub count : p ≡ sum_of (head_row a) i
  pub other-count : q ≡ sum_of (head_row b) j
  pub within : p + q ≤ length buffer
  pub size : length buffer ≡ length buffer₀
  pub state : Filling na (word_part a aw) nb (word_part b bw) (length buffer₀) i j (p + q) buffer

-- words before a row are among all words
sum_to : (h : ℕ → ℕ × ℕ) (n k : ℕ) → k ≤ n → sum_of h k ≤ sum_of h n
sum_to h n k l = elim (dec_lt k n) [
  | yes p ↦ (let q = sum-under h n k p in omega arith)
  | no p ↦ (let e : k ≡ n = omega arith in rw e (omega arith))
]

module _ {na nb : ℕ} {a aw b bw buffer₀ : List ℕ} where
  module _ (r : PartsReady na a aw nb b bw buffer₀) where
    up-parts : Up nat_order na (word_part a aw)
    up-parts = up-rows na a (λ k. part (sum_of (head_row a) k) (head_row a k).1 aw) r.tables.rows

    up-others : Up nat_order nb (word_part b bw)
    up-others = up-rows nb b (λ k. part (sum_of (head_row b) k) (head_row b k).1 bw) r.tables.others

    pub parts_none : PartsTo na a aw nb b bw buffer₀ buffer₀ 0 0 0 0
    parts_none = record {
      ready = r;
      first = omega arith;
      second = omega arith;
      count = refl;
      other-count = refl;
      within = omega arith;
      size = refl;
      state = filling-none up-parts up-others buffer₀ r.blank;
    }

  module _ {buffer : List ℕ} {i j p q : ℕ} (t : PartsTo na a aw nb b bw buffer₀ buffer i j p q) where
    -- the next block of the one table is there whole, and there is room for it
    pub part-row : {c : Bool} → c ≡ true → c ≡ first_next na a nb b i j → i * 2 + 1 < length a
    part-row e f = omega (arith, next_row na a nb b i j e f, t.ready.tables.rows.room)

    pub part_held : {c : Bool} {n : ℕ} → c ≡ true → c ≡ first_next na a nb b i j → n ≡ (head_row a i).1 → p + n ≤ length aw
    part_held e f g = omega (arith, sum-under (head_row a) na i (next_row na a nb b i j e f), t.count, t.ready.held)

    pub part_room : {c : Bool} {n : ℕ} → c ≡ true → c ≡ first_next na a nb b i j → n ≡ (head_row a i).1 → p + q + n ≤ length buffer
    part_room e f g =
        omega (arith, sum-under (head_row a) na i (next_row na a nb b i j e f), sum_to (head_row b) nb j t.second, t.count, t.other-count, t.ready.room, t.size)

    -- and of the other
    module _ {c : Bool} (e : c ≡ false) (f : c ≡ first_next na a nb b i j) (m : i + j < na + nb) where
      next-other : j < nb
      next-other = other_row na a nb b i j e f m t.first

      pub other-part-row : j * 2 + 1 < length b
      other-part-row = omega (arith, next-other, t.ready.tables.others.room)

      pub other-part-held : {n : ℕ} → n ≡ (head_row b j).1 → q + n ≤ length bw
      other-part-held g = omega (arith, sum-under (head_row b) nb j next-other, t.other-count, t.ready.other_held)

      pub other-part-room : {n : ℕ} → n ≡ (head_row b j).1 → p + q + n ≤ length buffer
      other-part-room g = omega (arith, sum-under (head_row b) nb j next-other, sum_to (head_row a) na i t.first, t.count, t.other-count, t.ready.room, t.size)

      pub parts-second : {n : ℕ} {next : List ℕ} → n ≡ (head_row b j).1 → next ≡ paste buffer (p + q) (part q n bw) n → PartsTo na a aw nb b bw buffer₀ next i (j + 1) p (q + n)
      parts-second {n} {next} g h =
          let cut : part q n bw ≡ (word_part b bw j).1 = λ x. part (t.other-count x) (g x) bw in
          let s : Filling na (word_part a aw) nb (word_part b bw) (length buffer₀) i (j + 1) (p + q + n) next =
          filling-second (up-parts t.ready) (up-others t.ready) t.state n next next-other (other-low na a nb b i j e f t.ready.tables next-other)
          (sym (ap length cut) ∙ length_part q n bw (other-part-held g)) (omega (arith, other-part-room g, t.size)) (h ∙ ap (λ (l : List ℕ). paste buffer (p + q) l n) cut) in
          record {
            ready = t.ready;
            first = t.first;
            second = omega (arith, next-other);
            count = t.count;
            other-count = rw (add-one j) (omega (arith, t.other-count));
            within = omega (arith, other-part-room g, t.size, filling-size (up-parts t.ready) (up-others t.ready) s);
            size = filling-size (up-parts t.ready) (up-others t.ready) s;
            state = rw (let w : p + q + n ≡ p + (q + n) = omega arith in w) at s;
          }

    pub parts_first : {c : Bool} {n : ℕ} {next : List ℕ} → c ≡ true → c ≡ first_next na a nb b i j → n ≡ (head_row a i).1 → next ≡ paste buffer (p + q) (part p n aw) n
        → PartsTo na a aw nb b bw buffer₀ next (i + 1) j (p + n) q
    parts_first {c} {n} {next} e f g h =
        let l : i < na = next_row na a nb b i j e f in
        let cut : part p n aw ≡ (word_part a aw i).1 = λ x. part (t.count x) (g x) aw in
        let s : Filling na (word_part a aw) nb (word_part b bw) (length buffer₀) (i + 1) j (p + q + n) next =
        filling-first (up-parts t.ready) (up-others t.ready) t.state n next l (next_low na a nb b i j e f)
        (sym (ap length cut) ∙ length_part p n aw (part_held e f g)) (omega (arith, part_room e f g, t.size)) (h ∙ ap (λ (y : List ℕ). paste buffer (p + q) y n) cut) in
        record {
          ready = t.ready;
          first = omega arith;
          second = t.second;
          count = rw (add-one i) (omega (arith, t.count));
          other-count = t.other-count;
          within = omega (arith, part_room e f g, t.size, filling-size (up-parts t.ready) (up-others t.ready) s);
          size = filling-size (up-parts t.ready) (up-others t.ready) s;
          state = rw (let w : p + q + n ≡ p + n + q = omega arith in w) at s;
        }

    pub parts_all : na + nb ≤ i + j → buffer ≡ lay (merged_parts na a aw nb b bw) (length buffer₀)
    unfolding merged_parts
    parts_all m = filling-all (up-parts t.ready) (up-others t.ready) t.state (omega (arith, t.first, t.second)) (omega (arith, t.first, t.second))
