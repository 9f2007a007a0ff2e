-- Whole fields: how long they are, and their parts one behind another. Assumes nothing.
use Prim.Native.Nat.{ℕ, ◌+◌, ◌*◌, ◌≤◌}
use mathlib.Core.Path.{◌≡◌, refl}
use mathlib.Core.List.{List, ◌++◌}
use native.Mathlib.Omega.{arith}
use lib.ListN.{length}
use Rattle.rules.specs.Stored.{fin, block, run, sets, gap, pair, pairs}
use Rattle.list_lines.specs.Appended.{Appended}
use Rattle.list_lines.proofs.Appending.{appended-more}
use Rattle.stored_fields.specs.Fields.{head_bytes, field_bytes, field_of}
use Rattle.stored_fields.proofs.Bytes.{length_pairs}

-- HOW LONG

length-head : (t n : ℕ) → length (head_bytes t n) ≡ 3
unfolding head_bytes
length-head t n = refl

pub length-field : (t : ℕ) (c : List ℕ) → length (field_bytes t c) ≡ 3 + length c
unfolding field_bytes
length-field t c = omega arith

pub length-block : (s n : ℕ) → length (field_of (block s n)) ≡ 7
unfolding field_of
length-block s n = refl

pub length-gap : (n : ℕ) → length (field_of (run (gap n))) ≡ 5
unfolding field_of
length-gap n = refl

pub length-sets : (ws : List ℕ) → length (field_of (run (sets ws))) ≡ 3 + length ws * 2
unfolding field_of
length-sets ws = omega (arith, length_pairs ws)

pub length-fin : length (field_of fin) ≡ 3
unfolding field_of
length-fin = refl

-- NAMES

module _ (t at : ℕ) (b c : List ℕ) where
  pub head-fits : at + length (field_bytes t c) ≤ length b → at + 3 ≤ length b
  head-fits h = omega (arith, length-field t c)

  pub rest-fits : (d : List ℕ) (m n : ℕ) → at + length (field_bytes t c) ≤ length b → Appended b d at m (head_bytes t n) → m + length c ≤ length d
  rest-fits d m n h p = omega (arith, length-field t c, length-head t n, p.stop, p.size)

  pub named : (d e : List ℕ) (m n : ℕ) → Appended b d at m (head_bytes t (length c)) → Appended d e m n c → Appended b e at n (field_bytes t c)
  unfolding head_bytes field_bytes
  named d e m n p q = appended-more p q

module _ (t at a : ℕ) (b c : List ℕ) where
  pub address-fits : (d : List ℕ) (m n : ℕ) → at + length (field_bytes t (pair a ++ c)) ≤ length b → Appended b d at m (head_bytes t n) → m + 2 ≤ length d
  address-fits d m n h p = omega (arith, length-field t (pair a ++ c), length-head t n, p.stop, p.size)

  pub name-fits : (d e : List ℕ) (m n k : ℕ) → at + length (field_bytes t (pair a ++ c)) ≤ length b → Appended b d at m (head_bytes t k) → Appended d e m n (pair a) → n + length c ≤ length e
  name-fits d e m n k h p q = omega (arith, length-field t (pair a ++ c), length-head t k, p.stop, p.size, q.stop, q.size)

  pub addressed : (d e f : List ℕ) (m n k : ℕ) → Appended b d at m (head_bytes t (2 + length c)) → Appended d e m n (pair a) → Appended e f n k c → Appended b f at k (field_bytes t (pair a ++ c))
  addressed d e f m n k p q r =
      let z : 2 + length c ≡ length (pair a ++ c) = omega arith in
      let p' : Appended b d at m (head_bytes t (length (pair a ++ c))) = rw (← z) p in
      named t at b (pair a ++ c) d f m k p' (appended-more q r)

-- A BLOCK

module _ (s n at : ℕ) (b : List ℕ) where
  pub block-head : at + length (field_of (block s n)) ≤ length b → at + 3 ≤ length b
  block-head h = omega (arith, length-block s n)

  pub block_start : (d : List ℕ) (m : ℕ) → at + length (field_of (block s n)) ≤ length b → Appended b d at m (head_bytes 1 4) → m + 2 ≤ length d
  block_start d m h p = omega (arith, length-block s n, length-head 1 4, p.stop, p.size)

  pub block_size : (d e : List ℕ) (m k : ℕ) → at + length (field_of (block s n)) ≤ length b → Appended b d at m (head_bytes 1 4) → Appended d e m k (pair s) → k + 2 ≤ length e
  block_size d e m k h p q = omega (arith, length-block s n, length-head 1 4, p.stop, p.size, q.stop, q.size)

  pub block-done : (d e f : List ℕ) (m k z : ℕ) → Appended b d at m (head_bytes 1 4) → Appended d e m k (pair s) → Appended e f k z (pair n) → Appended b f at z (field_of (block s n))
  unfolding head_bytes field_of
  block-done d e f m k z p q r = appended-more (appended-more p q) r

-- RUNS

module _ (at : ℕ) (b ws : List ℕ) where
  pub set-head : at + length (field_of (run (sets ws))) ≤ length b → at + 3 ≤ length b
  set-head h = omega (arith, length-sets ws)

  pub set_words : (d : List ℕ) (m n : ℕ) → at + length (field_of (run (sets ws))) ≤ length b → Appended b d at m (head_bytes 2 n) → m + length ws * 2 ≤ length d
  set_words d m n h p = omega (arith, length-sets ws, length-head 2 n, p.stop, p.size)

  pub set-done : (d e : List ℕ) (m k : ℕ) → Appended b d at m (head_bytes 2 (length ws * 2)) → Appended d e m k (pairs ws) → Appended b e at k (field_of (run (sets ws)))
  unfolding head_bytes field_of
  set-done d e m k p q = let z : length (pairs ws) ≡ length ws * 2 = length_pairs ws in rw z (appended-more p q)

module _ (n at : ℕ) (b : List ℕ) where
  pub gap-head : at + length (field_of (run (gap n))) ≤ length b → at + 3 ≤ length b
  gap-head h = omega (arith, length-gap n)

  pub gap-count : (d : List ℕ) (m : ℕ) → at + length (field_of (run (gap n))) ≤ length b → Appended b d at m (head_bytes 3 2) → m + 2 ≤ length d
  gap-count d m h p = omega (arith, length-gap n, length-head 3 2, p.stop, p.size)

  pub gap-done : (d e : List ℕ) (m k : ℕ) → Appended b d at m (head_bytes 3 2) → Appended d e m k (pair n) → Appended b e at k (field_of (run (gap n)))
  unfolding head_bytes field_of
  gap-done d e m k p q = appended-more p q

-- THE END

pub end-head : (at : ℕ) (b : List ℕ) → at + length (field_of fin) ≤ length b → at + 3 ≤ length b
end-head at b h = omega (arith, length-fin)

pub end-done : (at e : ℕ) (b d : List ℕ) → Appended b d at e (head_bytes 0 0) → Appended b d at e (field_of fin)
unfolding head_bytes field_of
end-done at e b d p = p
