-- Bytes and numbers written one behind another. Assumes nothing.
use Prim.Native.Nat.{ℕ, ◌+◌, ◌*◌, ◌/◌, ◌%◌, ◌≤◌, ◌<◌}
use mathlib.Core.Path.{◌≡◌, refl, ◌∙◌, ap}
use mathlib.Core.List.{List, [], ◌∷◌, ◌++◌}
use native.Mathlib.Numerals.{add-one}
use native.Mathlib.Omega.{arith}
use lib.ListN.{length, take, set, get_or, length-set}
use lib.Seq.{set_split, take-suc}
use Rattle.rules.specs.Stored.{pair, pairs}
use Rattle.list_lines.specs.Appended.{written, Appended}
use Rattle.list_lines.proofs.Appending.{appended-none, appended-more}
use Rattle.stored_fields.specs.Fields.{head_bytes}

-- one byte
pub one_byte : (b : List ℕ) (at v : ℕ) → at < length b → Appended b (set b at v) at (at + 1) (v ∷ [])
unfolding written
one_byte b at v h = record { room = omega arith; here = rw (add-one at) (set_split b at v h); stop = refl; size = length-set b at v }

-- a number
pub two_bytes : (b : List ℕ) (at v w : ℕ) → at + 2 ≤ length b → Appended b (set (set b at v) (at + 1) w) at (at + 2) (v ∷ w ∷ [])
two_bytes b at v w h =
    let p : Appended b (set b at v) at (at + 1) (v ∷ []) = one_byte b at v (omega arith) in
    let q : Appended (set b at v) (set (set b at v) (at + 1) w) (at + 1) (at + 1 + 1) (w ∷ []) = one_byte (set b at v) (at + 1) w (omega (arith, length-set b at v)) in
    let e : at + 1 + 1 ≡ at + 2 = omega arith in
    rw e at (appended-more p q)

-- a tag and a number
pub headed : (b c : List ℕ) (at e t n : ℕ) → at + 3 ≤ length b → Appended (set b at t) c (at + 1) e (pair n) → Appended b c at e (head_bytes t n)
unfolding head_bytes
headed b c at e t n h p = appended-more (one_byte b at t (omega arith)) p

pub length-headed : (b c : List ℕ) (at e t n : ℕ) → Appended (set b at t) c (at + 1) e (pair n) → length c ≡ length b
length-headed b c at e t n p = p.size ∙ length-set b at t

-- WORDS
pub length_pairs : (ws : List ℕ) → length (pairs ws) ≡ length ws * 2
length_pairs [] = refl
length_pairs (w ∷ ws) = let t = length_pairs ws in omega arith

pairs-append : (us ws : List ℕ) → pairs (us ++ ws) ≡ pairs us ++ pairs ws
pairs-append [] ws = refl
pairs-append (u ∷ us) ws = ap (λ (l : List ℕ). u / 256 ∷ u % 256 ∷ l) (pairs-append us ws)

-- the first i of the words, from `at` up to `end`
pub record Worded (b₀ b : List ℕ) (at end : ℕ) (ws : List ℕ) (i : ℕ) : Type 0 where
  pub here : Appended b₀ b at end (pairs (take i ws))
  pub next : end ≡ at + i * 2

module _ {b₀ : List ℕ} {at : ℕ} {ws : List ℕ} where
  pub worded-none : at + length ws * 2 ≤ length b₀ → Worded b₀ b₀ at at ws 0
  worded-none h = record { here = appended-none b₀ at (omega arith); next = omega arith }

  pub worded-more : {b c : List ℕ} {end e i : ℕ} → Worded b₀ b at end ws i → Appended b c end e (pair (get_or ws i 0)) → i < length ws → Worded b₀ c at e ws (i + 1)
  worded-more {b} {c} {end} {e} {i} p q l =
      let t : pairs (take (i + 1) ws) ≡ pairs (take i ws) ++ pair (get_or ws i 0) = rw (add-one i, take-suc ws i 0) (pairs-append (take i ws) (get_or ws i 0 ∷ [])) in
      record { here = rw t (appended-more p.here q); next = omega (arith, p.next, q.stop) }
