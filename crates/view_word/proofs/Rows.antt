-- Rows of labels and relocations read, and the labels at an address. Assumes nothing.
use Rattle.std.proofs.Common.{◌≡◌, ℕ, ◌+◌, ◌*◌, ◌<◌, ◌≤◌, Bool, true, false, ◌&&◌, eqb, List, [], length, get_or, sym, refl, ap, ◌∙◌, add-one, arith, le-ltb, lt-ltb, eq-eqb, ne_eqb}
use lib.ListN.{get_or-eq_default}
use Rattle.rules.specs.Base.{when◌then◌else◌}
use Rattle.rules.specs.Buffers.{name_row}
use Rattle.view_text.specs.Put.{Put}
use Rattle.view_text.proofs.Putting.{put-none, put_same, put-size, put-more}
use Rattle.view_word.specs.Labels.{defined_row, stands_at, later, last_at, relocates, name_text, label_line, own_line, own_lines}

pub past : (s : List ℕ) (k : ℕ) → length s ≤ k → 0 ≡ get_or s k 0
past s k h = sym (get_or-eq_default s 0 h)

module _ (ls : List ℕ) (k : ℕ) where
  pub defined-row : {x : ℕ} → x ≡ get_or ls (k * 4 + 1) 0 → eqb x 0 ≡ defined_row ls k
  unfolding defined_row
  defined-row e = rw e refl

  pub stands-row : {t : Bool} {x w : ℕ} (a : ℕ) → t ≡ defined_row ls k → x ≡ get_or ls (k * 4 + 0) 0 → w ≡ a → (t && eqb x w) ≡ stands_at ls a k
  unfolding stands_at
  stands-row a d e f = let z : k * 4 + 0 ≡ k * 4 = omega arith in rw (d, e, f, z) refl

  pub relocates-row : {x w : ℕ} (a : ℕ) → x ≡ get_or ls (k * 2 + 0) 0 → w ≡ a → eqb x w ≡ relocates ls a k
  unfolding relocates
  relocates-row a e f = let z : k * 2 + 0 ≡ k * 2 = omega arith in rw (e, f, z) refl

  pub later-this : {t : Bool} (a last : ℕ) → t ≡ stands_at ls a k → t ≡ true → k ≡ later ls a k last
  unfolding later when◌then◌else◌
  later-this a last e f = rw (sym e, f) refl

  pub later-other : {t : Bool} (a last : ℕ) → t ≡ stands_at ls a k → t ≡ false → last ≡ later ls a k last
  unfolding later when◌then◌else◌
  later-other a last e f = rw (sym e, f) refl

  pub name_in_lem : (ns : List ℕ) (n : ℕ) {t : List ℕ} → k < n → t ≡ name_row ls ns k → t ≡ name_text ls ns n k
  unfolding name_text when◌then◌else◌
  name_in_lem ns n h e = rw (lt-ltb k n h) e

  pub name_out : (ns : List ℕ) (n : ℕ) → n ≤ k → [] ≡ name_text ls ns n k
  unfolding name_text when◌then◌else◌
  name_out ns n h = rw (le-ltb k n h) refl

-- the last row, of k
pub record Last (ls : List ℕ) (n a k last : ℕ) : Type 0 where
  pub within : k ≤ n
  pub same : last ≡ last_at ls n a k

pub last-start : (ls : List ℕ) (n a : ℕ) → Last ls n a 0 n
unfolding last_at
last-start ls n a = record { within = omega arith; same = refl }

pub last_more : {ls : List ℕ} {n a k last r : ℕ} → Last ls n a k last → k < n → r ≡ later ls a k last → Last ls n a (k + 1) r
unfolding last_at
last_more {ls} {n} {a} {k} s h e = record { within = omega arith; same = rw add-one (e ∙ ap (later ls a k) s.same) }

pub last-all : {ls : List ℕ} {n a k last : ℕ} → Last ls n a k last → n ≤ k → last ≡ last_at ls n a n
last-all {ls} {n} {a} {k} s h = let z : k ≡ n = omega (arith, s.within) in s.same ∙ ap (last_at ls n a) z

-- the lines of k rows are put
pub record Owned (ls ns : List ℕ) (a shown n : ℕ) (b c : List ℕ) (at end k : ℕ) : Type 0 where
  pub within : k ≤ n
  pub put : Put b c at end (own_lines ls ns a shown k)

pub own-none : (ls ns : List ℕ) (a shown n : ℕ) (b : List ℕ) (at : ℕ) → Owned ls ns a shown n b b at at 0
unfolding own_lines
own-none ls ns a shown n b at = record { within = omega arith; put = put-none b at }

module _ {ls ns : List ℕ} {a shown n k : ℕ} {b c : List ℕ} {at m : ℕ} where
  pub own-more : {d : List ℕ} {e : ℕ} → Owned ls ns a shown n b c at m k → k < n → Put c d m e (own_line ls ns a shown k) → Owned ls ns a shown n b d at e (k + 1)
  unfolding own_lines
  own-more s h q = record { within = omega arith; put = rw add-one (put-more s.put q) }

  pub own-size : Owned ls ns a shown n b c at m k → length c ≡ length b
  own-size s = put-size s.put

  pub own-all : Owned ls ns a shown n b c at m k → n ≤ k → Put b c at m (own_lines ls ns a shown n)
  own-all s h = let z : k ≡ n = omega (arith, s.within) in put_same (ap (own_lines ls ns a shown) z) s.put

module _ (ls ns : List ℕ) (a shown k : ℕ) {t : Bool} {b : List ℕ} {at : ℕ} where
  pub own_line_lem : {c : List ℕ} {e : ℕ} {name : List ℕ} → t ≡ stands_at ls a k → t ≡ true → (k ≡ shown → ⊥) → name ≡ name_row ls ns k → Put b c at e (label_line a name) → Put b c at e (own_line ls ns a shown k)
  unfolding own_line when◌then◌else◌
  own_line_lem e f g q p = put_same (rw (sym e, f, ne_eqb k shown g, q) refl) p

  pub own-shown : t ≡ stands_at ls a k → t ≡ true → k ≡ shown → Put b b at at (own_line ls ns a shown k)
  unfolding own_line when◌then◌else◌
  own-shown e f g = put_same (rw (sym e, f, eq-eqb k shown g) refl) (put-none b at)

  pub own-other : t ≡ stands_at ls a k → t ≡ false → Put b b at at (own_line ls ns a shown k)
  unfolding own_line when◌then◌else◌
  own-other e f = put_same (rw (sym e, f) refl) (put-none b at)
