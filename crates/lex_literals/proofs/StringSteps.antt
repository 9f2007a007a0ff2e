-- What stands in a string where its plain bytes end, what an escape stands for, and the characters one by one. Assumes nothing.
use Prim.Native.Nat.{ℕ, ◌+◌, ◌<◌, ◌≤◌}
use mathlib.Core.Path.{◌≡◌, refl, sym, ◌∙◌}
use mathlib.Core.Bool.{Bool, true, false, ◌||◌}
use mathlib.Core.List.{List, [], ◌∷◌}
use native.Mathlib.Omega.{arith}
use borrow.Author.Tests.{eq-eqb, ne_eqb}
use lib.Dec.{eqb}
use lib.ListN.{length, get_or}
use Rattle.rules.specs.Base.{when◌then◌else◌}
use Rattle.rules.specs.Tokens.{escape}
use Rattle.base_text.specs.Runs.{from}
use Rattle.base_text.proofs.Rest.{from_step, from_end, begins-at, first-at}
use Rattle.lex_literals.specs.Strings.{line_stops, behind, special, is_escape, stands_for, first_of, after_backslash, char_at}
use Rattle.lex_literals.specs.declared.Special.{Special}
use Rattle.lex_literals.specs.declared.Special.TheVariants.{Ends, Quote, Adds}
use Rattle.lex_literals.specs.declared.StringChar.TheVariants.{Char, Done}

-- an escape is one character, else the backslash stays
pub escape-is : (c : ℕ) → escape c ≡ (when is_escape c then stands_for c ∷ [] else 92 ∷ c ∷ [])
unfolding escape is_escape stands_for when◌then◌else◌
escape-is c = go (eqb c 110) (eqb c 114) (eqb c 116) (eqb c 48) (eqb c 92) (eqb c 34)
  where
    go :
        (n r t o b q : Bool)
        → (when n then 10 ∷ [] else when r then 13 ∷ [] else when t then 9 ∷ [] else when o then 0 ∷ [] else when b || q then c ∷ [] else 92 ∷ c ∷ [])
        ≡ (when n || r || t || o || b || q then (when n then 10 else when r then 13 else when t then 9 else when o then 0 else c) ∷ [] else 92 ∷ c ∷ [])
    go true r t o b q = refl
    go false true t o b q = refl
    go false false true o b q = refl
    go false false false true b q = refl
    go false false false false true q = refl
    go false false false false false true = refl
    go false false false false false false = refl

-- one character or two
module _ (c : ℕ) where
  pub size-one : {t : Bool} → t ≡ is_escape c → t ≡ true → 1 ≡ length (escape c)
  unfolding when◌then◌else◌
  size-one e t = rw (escape-is c, ← e, t)

  pub size-two : {t : Bool} → t ≡ is_escape c → t ≡ false → 2 ≡ length (escape c)
  unfolding when◌then◌else◌
  size-two e t = rw (escape-is c, ← e, t)

pub size-le : (c : ℕ) → length (escape c) ≤ 2
unfolding when◌then◌else◌
size-le c = rw (escape-is c) (go (is_escape c))
  where
    go : (t : Bool) → length (when t then stands_for c ∷ [] else 92 ∷ c ∷ []) ≤ 2
    go true = omega arith
    go false = omega arith

-- LF, CR LF, and anything else
module _ (s : List ℕ) (i : ℕ) where
  pub stops-lf : get_or s i 0 ≡ 10 → true ≡ line_stops (get_or s i 0) (from s (i + 1))
  unfolding line_stops
  stops-lf e = rw (eq-eqb _ _ e)

  pub stops-cr : {c : ℕ} → (get_or s i 0 ≡ 10 → ⊥) → get_or s i 0 ≡ 13 → c ≡ get_or s (i + 1) 0 → eqb c 10 ≡ line_stops (get_or s i 0) (from s (i + 1))
  unfolding line_stops
  stops-cr n e q = rw (ne_eqb _ _ n, eq-eqb _ _ e, begins-at (λ d. eqb d 10) refl s (i + 1), q)

  pub stops-not : (get_or s i 0 ≡ 10 → ⊥) → (get_or s i 0 ≡ 13 → ⊥) → false ≡ line_stops (get_or s i 0) (from s (i + 1))
  unfolding line_stops
  stops-not n m = rw (ne_eqb _ _ n, ne_eqb _ _ m)

-- WHERE PLAIN BYTES END

module _ (s : List ℕ) (i : ℕ) where
  pub ends-source : length s ≤ i → Ends i ≡ special i (from s i)
  unfolding special
  ends-source h = rw (from_end s i h)

  pub behind-source : length s ≤ i → Ends i ≡ behind i (from s i)
  unfolding behind
  behind-source h = rw (from_end s i h)

  module _ (h : i < length s) {t : Bool} (l : t ≡ line_stops (get_or s i 0) (from s (i + 1))) where
    pub ends-line : t ≡ true → Ends i ≡ special i (from s i)
    unfolding special when◌then◌else◌
    ends-line p = rw (from_step s i h, ← l, p)

    pub ends-quote : t ≡ false → get_or s i 0 ≡ 34 → Quote ≡ special i (from s i)
    unfolding special when◌then◌else◌
    ends-quote p e = rw (from_step s i h, ← l, p, eq-eqb _ _ e)

    pub ends-back : {r : Special} → t ≡ false → (get_or s i 0 ≡ 34 → ⊥) → get_or s i 0 ≡ 92 → r ≡ behind (i + 1) (from s (i + 1)) → r ≡ special i (from s i)
    unfolding special when◌then◌else◌
    ends-back p n e q = q ∙ sym (rw (from_step s i h, ← l, p, ne_eqb _ _ n, eq-eqb _ _ e))

    pub ends-other : t ≡ false → (get_or s i 0 ≡ 34 → ⊥) → (get_or s i 0 ≡ 92 → ⊥) → Adds 1 (i + 1) ≡ special i (from s i)
    unfolding special when◌then◌else◌
    ends-other p n m = rw (from_step s i h, ← l, p, ne_eqb _ _ n, ne_eqb _ _ m)

    pub behind-line : t ≡ true → Ends i ≡ behind i (from s i)
    unfolding behind when◌then◌else◌
    behind-line p = rw (from_step s i h, ← l, p)

    pub behind-byte : {m : ℕ} → t ≡ false → m ≡ length (escape (get_or s i 0)) → Adds m (i + 1) ≡ behind i (from s i)
    unfolding behind when◌then◌else◌
    behind-byte p e = rw (from_step s i h, ← l, p, e)

-- the characters one by one
back_is : (at : ℕ) (l : List ℕ) → after_backslash at l ≡ (when is_escape (get_or l 0 0) then Char (stands_for (get_or l 0 0)) (at + 2) else Char 92 (at + 1))
unfolding after_backslash is_escape when◌then◌else◌
back_is at [] = refl
back_is at (d ∷ l) = rw (escape-is d) (go (is_escape d))
  where
    go : (t : Bool) → first_of at (when t then stands_for d ∷ [] else 92 ∷ d ∷ []) ≡ (when t then Char (stands_for d) (at + 2) else Char 92 (at + 1))
    go true = refl
    go false = refl

module _ (s : List ℕ) (at : ℕ) where
  pub char-end : length s ≤ at → Done ≡ char_at at (from s at)
  unfolding char_at
  char-end h = rw (from_end s at h)

  module _ (h : at < length s) where
    pub char-quote : get_or s at 0 ≡ 34 → Done ≡ char_at at (from s at)
    unfolding char_at when◌then◌else◌
    char-quote e = rw (from_step s at h, eq-eqb _ _ e)

    module _ {d : ℕ} {t : Bool} (n : get_or s at 0 ≡ 34 → ⊥) (e : get_or s at 0 ≡ 92) (p : d ≡ get_or s (at + 1) 0) (q : t ≡ is_escape d) where
      char-back : char_at at (from s at) ≡ (when t then Char (stands_for d) (at + 2) else Char 92 (at + 1))
      unfolding char_at when◌then◌else◌
      char-back = rw (from_step s at h, ne_eqb _ _ n, eq-eqb _ _ e, back_is at (from s (at + 1)), first-at s (at + 1), ← p, ← q)

      pub char-escape : {v : ℕ} → t ≡ true → v ≡ stands_for d → Char v (at + 2) ≡ char_at at (from s at)
      unfolding when◌then◌else◌
      char-escape y f = sym (char-back ∙ rw (y, f))

      pub char-kept : t ≡ false → Char (get_or s at 0) (at + 1) ≡ char_at at (from s at)
      unfolding when◌then◌else◌
      char-kept y = sym (char-back ∙ rw (y, e))

    pub char-plain : (get_or s at 0 ≡ 34 → ⊥) → (get_or s at 0 ≡ 92 → ⊥) → Char (get_or s at 0) (at + 1) ≡ char_at at (from s at)
    unfolding char_at when◌then◌else◌
    char-plain n m = rw (from_step s at h, ne_eqb _ _ n, ne_eqb _ _ m)
