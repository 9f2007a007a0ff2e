-- Texts written one behind the other. Assumes nothing.
use Prim.Native.Nat.{ℕ, zero, suc, ◌+◌, ◌≤◌, ◌<◌}
use mathlib.Core.Path.{◌≡◌, refl, sym, ◌∙◌, ap}
use mathlib.Core.List.{List, [], ◌∷◌, ◌++◌, flat_map, append_assoc, append-nil}
use native.Mathlib.Nat.{add-zero, zero-add}
use native.Mathlib.Decide.{dec_lt}
use native.Mathlib.Omega.{arith}
use native.Mathlib.Numerals.{add-one}
use lib.ListN.{length, take, drop, length-append, length-take, length-drop, take-append-drop}
use lib.Seq.{paste, take_at, drop_at, take-length, length-take-le, drop-drop}
use Rattle.rules.specs.Buffers.{tab, zeros, lay}
use Rattle.rules.proofs.Rows.{tab-suc, drop-replicate}
use Rattle.list_lines.specs.Appended.{written, Appended}

-- nothing yet
pub appended-none : (b : List ℕ) (at : ℕ) → at ≤ length b → Appended b b at at []
unfolding written
appended-none b at h = record { room = omega arith; here = sym (rw add-zero (take-append-drop at b)); stop = sym (add-zero at); size = refl }

-- a copy
pub appended-put : (b c : List ℕ) (at : ℕ) (l : List ℕ) → c ≡ paste b at l (length l) → at + length l ≤ length b → Appended b c at (at + length l) l
unfolding written
appended-put b c at l e h =
    let p : c ≡ take at b ++ (l ++ drop (at + length l) b) = e ∙ (rw (take-length l) (append_assoc (take at b) l (drop (at + length l) b))) in
    record { room = h; here = p; stop = refl; size = ap length p ∙ simp (length-append, length-take, length-drop) (omega arith) }

-- the front of a buffer after a text, and its rest
module _ (b : List ℕ) (at : ℕ) (u : List ℕ) (h : at + length u ≤ length b) where
  front : take (at + length u) (written b at u) ≡ take at b ++ u
  unfolding written
  front = ap (take (at + length u)) (sym (append_assoc (take at b) u (drop (at + length u) b)))
      ∙ take_at (take at b ++ u) (drop (at + length u) b) (at + length u) (length-append (take at b) u ∙ ap (λ (k : ℕ). k + length u) (length-take-le at b (omega arith)))

  rest : drop (at + length u) (written b at u) ≡ drop (at + length u) b
  unfolding written
  rest = ap (drop (at + length u)) (sym (append_assoc (take at b) u (drop (at + length u) b)))
      ∙ drop_at (take at b ++ u) (drop (at + length u) b) (at + length u) (length-append (take at b) u ∙ ap (λ (k : ℕ). k + length u) (length-take-le at b (omega arith)))

-- one behind the other
pub appended-more : {b₀ b c : List ℕ} {at m e : ℕ} {u v : List ℕ} → Appended b₀ b at m u → Appended b c m e v → Appended b₀ c at e (u ++ v)
unfolding written
appended-more {b₀} {b} {c} {at} {m} {e} {u} {v} p q =
    let n : length (u ++ v) ≡ length u + length v = length-append u v in
    let r : at + length u + length v ≤ length b₀ = omega (arith, p.stop, p.size, q.room) in
    let f : take m b ≡ take at b₀ ++ u = rw (p.stop, p.here) (front b₀ at u p.room) in
    let d : drop (m + length v) b ≡ drop (at + length (u ++ v)) b₀ =
    rw (p.stop, n) (sym (drop-drop (length v) (at + length u) b) ∙ (ap (drop (length v)) (rw p.here (rest b₀ at u p.room)) ∙ (drop-drop (length v) (at + length u) b₀ ∙ ap (λ (k : ℕ). drop k b₀) (let z : at + length u + length v ≡ at + (length u + length v) = omega arith in z)))) in
    record {
      room = omega arith;
      here = q.here ∙ (rw (f, d) (append_assoc (take at b₀) u (v ++ drop (at + length (u ++ v)) b₀) ∙ ap (λ (x : List ℕ). take at b₀ ++ x) (sym (append_assoc u v (drop (at + length (u ++ v)) b₀)))));
      stop = omega (arith, p.stop, q.stop);
      size = q.size ∙ p.size;
    }

-- from the front of a buffer of zeros
pub appended-laid : (b c : List ℕ) (e len : ℕ) (l : List ℕ) → b ≡ zeros len → Appended b c 0 e l → c ≡ lay l len
unfolding written
appended-laid b c e len l z p = p.here ∙ (rw (z, zero-add) (ap (λ (x : List ℕ). l ++ x) (drop-replicate (length l) len)))

-- TEXTS OF ROWS: f of each of g 0, g 1, ..
flat_append : {A : Type 0} (f : A → List ℕ) (x y : List A) → flat_map f (x ++ y) ≡ flat_map f x ++ flat_map f y
unfolding flat_map
flat_append f [] y = refl
flat_append f (a ∷ x) y = ap (λ (l : List ℕ). f a ++ l) (flat_append f x y) ∙ sym (append_assoc (f a) (flat_map f x) (flat_map f y))

module _ {A : Type 0} (f : A → List ℕ) (g : ℕ → A) where
  -- one row more
  pub rows-suc : (k : ℕ) → flat_map f (tab (suc k) g) ≡ flat_map f (tab k g) ++ f (g k)
  unfolding flat_map
  rows-suc k = ap (flat_map f) (tab-suc k g) ∙ (flat_append f (tab k g) (g k ∷ []) ∙ ap (λ (l : List ℕ). flat_map f (tab k g) ++ l) (append-nil (f (g k))))

  pub rows_more : (k : ℕ) → flat_map f (tab (k + 1) g) ≡ flat_map f (tab k g) ++ f (g k)
  rows_more k = rw add-one (rows-suc k)

  -- the rows up to k and row k lie in all n
  pub rows_fit : (k n : ℕ) → k < n → length (flat_map f (tab k g)) + length (f (g k)) ≤ length (flat_map f (tab n g))
  rows_fit k zero h = absurd (omega arith)
  rows_fit k (suc n) h = go (dec_lt k n) (rows_fit k n)
    where
      more : length (flat_map f (tab (suc n) g)) ≡ length (flat_map f (tab n g)) + length (f (g n))
      more = ap length (rows-suc n) ∙ length-append (flat_map f (tab n g)) (f (g n))

      go : Dec (k < n) → (k < n → length (flat_map f (tab k g)) + length (f (g k)) ≤ length (flat_map f (tab n g))) → length (flat_map f (tab k g)) + length (f (g k)) ≤ length (flat_map f (tab (suc n) g))
      go (yes l) ih = let i = ih l in omega (arith, more)
      go (no l) ih = let e : k ≡ n = omega arith in rw e (omega (arith, more))
