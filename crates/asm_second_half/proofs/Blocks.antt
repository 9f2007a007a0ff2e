-- The blocks that pass two leaves are the rules' blocks, and stand in their layout. Assumes nothing.
use mathlib.Core.Path.{◌≡◌, refl, sym, ◌∙◌, ap}
use mathlib.Core.List.{List, [], ◌∷◌, map}
use Prim.Native.Nat.{ℕ, zero, suc, ◌+◌, ◌-◌, ◌*◌, ◌≤◌, ◌<◌, zero-le}
use native.Mathlib.Nat.{not-suc-le-zero, le_of_suc-le-suc}
use native.Mathlib.Omega.{arith}
use lib.ListN.{length, take, drop, get_or, take-append-drop}
use lib.Seq.{length-take-le}
use Rattle.rules.specs.Objects.{Cell, Object}
use Rattle.rules.specs.Passes.{ObjBlock}
use Rattle.rules.specs.Buffers.{tab, head_row, cell_row, sum_of, BlockRow, BlocksOk, WordsOk, carve, view_blocks, zeros, lay, six, lay_blocks, lay_words, lay_marks, Valid}
use Rattle.rules.proofs.Rows.{tab-ext, length-tab}
use Rattle.rules.proofs.Sound.{sum-front}
use Rattle.rules.proofs.Plain.{plain-layout}
use Rattle.pass2_blocks.specs.Rows.{cells_at, block_row, view_obj_blocks}
use Rattle.laws.proofs.Alongside.{Apart, stop}

abbrev next : (ℕ → ℕ × ℕ) → ℕ → ℕ × ℕ
next h k = h (suc k)

take-tab : (a w : ℕ) (f : ℕ → Cell) → a ≤ w → take a (tab w f) ≡ tab a f
take-tab zero w f l = refl
take-tab (suc a) zero f l = absurd (not-suc-le-zero l)
take-tab (suc a) (suc w) f l = ap (λ (x : List Cell). f 0 ∷ x) (take-tab a w (λ k. f (suc k)) (le_of_suc-le-suc l))

drop-tab : (a w : ℕ) (f : ℕ → Cell) → a ≤ w → drop a (tab w f) ≡ tab (w - a) (λ i. f (a + i))
drop-tab zero w f l =
    let e : w - 0 ≡ w = omega arith in
    rw e (tab-ext w f (λ i. f (0 + i)) (λ i h. ap f (let q : i ≡ 0 + i = omega arith in q)))
drop-tab (suc a) zero f l = absurd (not-suc-le-zero l)
drop-tab (suc a) (suc w) f l =
    let e : suc w - suc a ≡ w - a = omega arith in
    rw e (drop-tab a w (λ k. f (suc k)) (le_of_suc-le-suc l) ∙ tab-ext (w - a) (λ i. f (suc (a + i))) (λ i. f (suc a + i)) (λ i h. ap f (let q : suc (a + i) ≡ suc a + i = omega arith in q)))

map-tab : {A B : Type 0} (g : A → B) (n : ℕ) (f : ℕ → A) → map g (tab n f) ≡ tab n (λ k. g (f k))
map-tab g zero f = refl
map-tab g (suc n) f = ap (λ (x : List _). g (f 0) ∷ x) (map-tab g n (λ k. f (suc k)))

-- blocks cut from words, row by row
carved : (n : ℕ) (h : ℕ → ℕ × ℕ) (w : ℕ) (f : ℕ → Cell) → sum_of h n ≤ w → carve (tab n h) (tab w f) ≡ tab n (λ k. ((h k).0, tab (h k).1 (λ i. f (sum_of h k + i))))
carved zero h w f l = refl
carved (suc n) h w f l =
    let s = sum-front h n in
    let a : (h 0).1 ≤ w = omega (arith, s) in
    let first : take (h 0).1 (tab w f) ≡ tab (h 0).1 (λ i. f (0 + i)) = take-tab (h 0).1 w f a ∙ tab-ext (h 0).1 f (λ i. f (0 + i)) (λ i m. ap f (let q : i ≡ 0 + i = omega arith in q)) in
    let ih = carved n (next h) (w - (h 0).1) (λ i. f ((h 0).1 + i)) (omega (arith, s)) in
    let row : (k : ℕ) → k < n → ◌≡◌ {A = ℕ × List Cell} ((h (suc k)).0, tab (h (suc k)).1 (λ i. f ((h 0).1 + (sum_of (next h) k + i)))) ((h (suc k)).0, tab (h (suc k)).1 (λ i. f (sum_of h (suc k) + i)))
    = λ k m. ap (λ (x : List Cell). ((h (suc k)).0, x)) (tab-ext (h (suc k)).1 (λ i. f ((h 0).1 + (sum_of (next h) k + i))) (λ i. f (sum_of h (suc k) + i)) (λ i z. ap f (let q : (h 0).1 + (sum_of (next h) k + i) ≡ sum_of h (suc k) + i = omega (arith, sum-front h k) in q))) in
    let rest = ap (carve (tab n (next h))) (drop-tab (h 0).1 w f a) ∙ (ih ∙ tab-ext n (λ k. ((h (suc k)).0, tab (h (suc k)).1 (λ i. f ((h 0).1 + (sum_of (next h) k + i))))) (λ k. ((h (suc k)).0, tab (h (suc k)).1 (λ i. f (sum_of h (suc k) + i)))) row) in
    λ v. ((h 0).0, first v) ∷ rest v

-- the blocks of pass two, without their .orig
pub placed-view : (n w : ℕ) (bs os ws ms : List ℕ) → sum_of (head_row bs) n ≤ w → map (λ (b : ObjBlock). (b.start, b.words)) (view_obj_blocks n bs os ws ms) ≡ view_blocks n w bs ws ms
unfolding view_obj_blocks view_blocks cells_at
placed-view n w bs os ws ms l = map-tab (λ (b : ObjBlock). (b.start, b.words)) n (block_row bs os ws ms) ∙ sym (carved n (head_row bs) w (cell_row ws ms) l)

-- rows of blocks that lie apart
rows_apart : (n : ℕ) (f : ℕ → ObjBlock) (h : ℕ → ℕ × ℕ) (y : ℕ) → ((k : ℕ) → ((f k).start ≡ (h k).0) × (length (f k).words ≡ (h k).1)) → Apart y (tab n f) → (k : ℕ) → k < n → BlockRow y h k
rows_apart zero f h y e a k l = absurd (not-suc-le-zero l)
rows_apart (suc n) f h y e a zero l =
    let p = e 0 in
    record { after = omega (arith, a.0.0, p.0); filled = omega (arith, a.0.1.0, p.1); low = omega (arith, a.0.1.1, p.0, p.1) }
rows_apart (suc n) f h y e a (suc zero) l =
    let p = e 0 in
    let b = rows_apart n (λ k. f (suc k)) (next h) (stop (f 0)) (λ k. e (suc k)) a.1 0 (le_of_suc-le-suc l) in
    record { after = omega (arith, b.after, p.0, p.1); filled = b.filled; low = b.low }
rows_apart (suc n) f h y e a (suc (suc k)) l =
    let b = rows_apart n (λ k. f (suc k)) (next h) (stop (f 0)) (λ k. e (suc k)) a.1 (suc k) (le_of_suc-le-suc l) in
    record { after = b.after; filled = b.filled; low = b.low }

-- n blocks of w words together, and zeros in every unused rest
pub record Written (n w : ℕ) (bs ws ms : List ℕ) : Type 0 where
  pub blocks : BlocksOk n w bs
  pub words : WordsOk w ws ms
  pub rest-blocks : drop (n * 2) bs ≡ zeros (length bs - n * 2)
  pub rest-words : drop w ws ≡ zeros (length ws - w)
  pub rest-marks : drop w ms ≡ zeros (length ms - w)

-- blocks, words and marks are those of an object's layout
pub record LaidBlocks (o : Object) (bs ws ms : List ℕ) : Type 0 where
  pub blocks : bs ≡ lay_blocks o (length bs)
  pub words : ws ≡ lay_words o (length ws)
  pub marks : ms ≡ lay_marks o (length ms)

pub blocks-ok : (n w : ℕ) (bs os ws ms : List ℕ) → n ≤ 64 → n * 2 ≤ length bs → sum_of (head_row bs) n ≡ w → Apart 0 (view_obj_blocks n bs os ws ms) → BlocksOk n w bs
unfolding view_obj_blocks cells_at
blocks-ok n w bs os ws ms f l s a = record {
  few = f;
  room = l;
  rows = rows_apart n (block_row bs os ws ms) (head_row bs) 0 (λ k. (refl, length-tab (get_or bs (k * 2 + 1) 0) (λ i. cell_row ws ms (sum_of (head_row bs) k + i)))) a;
  sum = s;
}

laid : (k : ℕ) (l : List ℕ) → k ≤ length l → drop k l ≡ zeros (length l - k) → lay (take k l) (length l) ≡ l
laid k l h z =
    let e = length-take-le k l h in
    rw (e, ← z) (take-append-drop k l)

pub blocks-laid : (o : Object) (n w : ℕ) (bs ws ms : List ℕ) → Written n w bs ws ms → o.blocks ≡ view_blocks n w bs ws ms → LaidBlocks o bs ws ms
unfolding lay_blocks lay_words lay_marks
blocks-laid o n w bs ws ms h q =
    let v : Valid (record { blocks = n; words = w; labels = 0; relocs = 0 }) (six bs ws ms [] [] []) = record {
      blocks = h.blocks;
      words = h.words;
      labels = record { few = zero-le; room = zero-le; rows = λ k l. absurd (not-suc-le-zero l); up = record { next = λ k l. absurd (not-suc-le-zero l) } };
      relocs = record { few = zero-le; room = zero-le; rows = λ k l. absurd (not-suc-le-zero l); up = λ k l. absurd (not-suc-le-zero l) };
    } in
    let p = plain-layout (record { blocks = n; words = w; labels = 0; relocs = 0 }) (six bs ws ms [] [] []) v in
    rw q (record {
      blocks = sym (p.blocks (length bs) ∙ laid (n * 2) bs h.blocks.room h.rest-blocks);
      words = sym (p.words (length ws) ∙ laid w ws h.words.room_words h.rest-words);
      marks = sym (p.marks (length ms) ∙ laid w ms h.words.room_marks h.rest-marks);
    })
