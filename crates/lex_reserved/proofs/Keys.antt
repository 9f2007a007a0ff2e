-- The key of a word: it grows byte by byte, and no two words of bytes have the same. Assumes nothing.
use Prim.Native.Nat.{ℕ, suc, ◌+◌, ◌*◌, ◌<◌, ◌≤◌}
use mathlib.Core.Path.{◌≡◌, refl, sym, ◌∙◌, ap}
use mathlib.Core.Bool.{Bool, true, ◌&&◌}
use mathlib.Core.List.{List, [], ◌∷◌, map}
use native.Mathlib.Omega.{arith}
use borrow.Author.Tests.{eq-eqb, lt-ltb, ltb-true}
use lib.Dec.{ltb}
use lib.ListN.{length, get_or}
use Rattle.rules.specs.Base.{same}
use Rattle.rules.specs.Tokens.{upper}
use Rattle.rules.proofs.Bools.{either, and_left, and_right}
use Rattle.base_text.specs.Runs.{from}
use Rattle.base_text.proofs.Rest.{from_step, from_end}
use Rattle.lex_reserved.specs.Slots.{key_of}

-- A WORD OF BYTES
abbrev pub of_bytes : List ℕ → Bool
of_bytes [] = true
of_bytes (c ∷ w) = ltb c 256 && of_bytes w

upper-byte : (c : ℕ) → c < 256 → upper c < 256
unfolding upper
upper-byte c h = either (λ x. x < 256) _ (omega arith) h

pub upper-bytes : (s : List ℕ) → ((k : ℕ) → get_or s k 0 < 256) → of_bytes (map upper s) ≡ true
upper-bytes [] v = refl
upper-bytes (c ∷ s) v = rw (lt-ltb (upper c) 256 (upper-byte c (v 0))) (upper-bytes s (λ k. v (suc k)))

-- ONE KEY, ONE WORD
pub key-some : (w : List ℕ) → 1 ≤ key_of w
unfolding key_of
key-some [] = omega arith
key-some (c ∷ w) = omega (arith, key-some w)

pub key-same : (a b : List ℕ) → of_bytes a ≡ true → of_bytes b ≡ true → key_of a ≡ key_of b → same a b ≡ true
unfolding key_of
key-same [] [] p q e = refl
key-same [] (d ∷ b) p q e = absurd (omega (arith, key-some b))
key-same (c ∷ a) [] p q e = absurd (omega (arith, key-some a))
key-same (c ∷ a) (d ∷ b) p q e =
    let x : c < 256 = ltb-true c 256 (and_left (ltb c 256) (of_bytes a) p) in
    let y : d < 256 = ltb-true d 256 (and_left (ltb d 256) (of_bytes b) q) in
    rw (eq-eqb c d (omega arith)) (key-same a b (and_right (ltb c 256) (of_bytes a) p) (and_right (ltb d 256) (of_bytes b) q) (omega arith))

-- THE KEY FROM A BYTE ON
module _ (s : List ℕ) {i above : ℕ} (p : above ≡ key_of (map upper (from s (i + 1)))) where
  pub key_more : {c d : ℕ} → i < length s → c ≡ upper (get_or s i 0) → d ≡ c → above * 256 + d ≡ key_of (map upper (from s i))
  unfolding key_of
  key_more h e f = sym (rw (from_step s i h, ← e, ← f, ← p))

  pub key-past : length s ≤ i → above ≡ key_of (map upper (from s i))
  key-past h = p ∙ ap (λ (l : List ℕ). key_of (map upper l)) (from_end s (i + 1) (omega arith) ∙ sym (from_end s i h))

pub key-end : (s : List ℕ) (i : ℕ) → length s ≤ i → 1 ≡ key_of (map upper (from s i))
unfolding key_of
key-end s i h = sym (rw (from_end s i h))
