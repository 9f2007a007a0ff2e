-- A string's scan is the rule's, and its characters handed out one by one are those of the rule. Assumes nothing.
use Prim.Native.Nat.{ℕ, suc, ◌+◌, ◌<◌}
use mathlib.Core.Path.{◌≡◌, refl, sym, ◌∙◌, ap}
use mathlib.Core.Bool.{Bool, true, false, ◌&&◌, ◌||◌}
use mathlib.Core.List.{List, [], ◌∷◌, ◌++◌}
use native.Mathlib.Nat.{add-zero}
use native.Mathlib.Omega.{arith}
use lib.Dec.{eqb}
use lib.ListN.{length, drop, length-append}
use lib.Seq.{drop-drop}
use Rattle.rules.specs.Base.{when◌then◌else◌}
use Rattle.rules.specs.Tokens.{begins, escape, Quoted, open', closed, put, quoted, line}
use Rattle.rules.proofs.Bools.{never}
use Rattle.base_text.specs.Runs.{from}
use Rattle.lex_literals.specs.Strings.{line_stops, closes, opens, adds, is_escape, stands_for, scan, first_of, after_backslash, char_at}
use Rattle.lex_literals.specs.declared.StringChar.{StringChar}
use Rattle.lex_literals.specs.declared.StringChar.TheVariants.{Char, Done}
use Rattle.lex_literals.proofs.StringSteps.{escape-is}
use Rattle.lex_literals.specs.declared.Scanned.{Scanned}
use Rattle.lex_literals.specs.declared.Scanned.TheVariants.{Closed, Open}

-- what a scan is that has n characters up to place i and meets, in a line of k bytes more, this string
unfoldable pub scanned : (n i k : ℕ) → Quoted → Scanned
scanned n i k open' = Open (i + k)
scanned n i k (closed t m) = Closed (n + length t) (i + m)

put-scanned : (n i k : ℕ) (t : List ℕ) (q : Quoted) → scanned (n + length t) (i + 1) k q ≡ scanned n i (suc k) (put t q)
unfolding scanned put
put-scanned n i k t open' = ap Open (omega arith)
put-scanned n i k t (closed u m) =
    let a : n + length t + length u ≡ n + length (t ++ u) = omega (arith, length-append t u) in
    let b : i + 1 + m ≡ i + (1 + m) = omega arith in
    cc

-- one byte that ends no line
module _
    (c : ℕ) (n i : ℕ) (l : List ℕ)
    (again : (b : Bool) (m : ℕ) → scan b m (i + 1) l ≡ scanned m (i + 1) (length (line l)) (quoted b (line l)))
  where
    plain : (q k : Bool) → (when q then Closed n (i + 1) else scan k (n + (when k then 0 else 1)) (i + 1) l) ≡ scanned n i (suc (length (line l))) (when q then closed [] 1 else when k then put [] (quoted true (line l)) else put (c ∷ []) (quoted false (line l)))
    unfolding when◌then◌else◌ scanned
    plain true k = ap (λ (m : ℕ). Closed m (i + 1)) (sym (add-zero n))
    plain false true = again true (n + 0) ∙ put-scanned n i (length (line l)) [] (quoted true (line l))
    plain false false = again false (n + 1) ∙ put-scanned n i (length (line l)) (c ∷ []) (quoted false (line l))

    byte-means : (b : Bool) → (when closes b c then Closed n (i + 1) else scan (opens b c) (n + adds b c) (i + 1) l) ≡ scanned n i (suc (length (line l))) (quoted b (c ∷ line l))
    unfolding quoted closes opens adds when◌then◌else◌
    byte-means true = again false (n + length (escape c)) ∙ put-scanned n i (length (line l)) (escape c) (quoted false (line l))
    byte-means false = plain (eqb c 34) (eqb c 92)

pub scan-means : (b : Bool) (n i : ℕ) (l : List ℕ) → scan b n i l ≡ scanned n i (length (line l)) (quoted b (line l))
unfolding scan scanned line quoted line_stops when◌then◌else◌
scan-means b n i [] = ap Open (sym (add-zero i))
scan-means b n i (c ∷ l) = go (eqb c 10 || (eqb c 13 && begins (λ d. eqb d 10) l)) (byte-means c n i l (λ b' m. scan-means b' m (i + 1) l) b)
  where
    go :
        (t : Bool)
        → (when closes b c then Closed n (i + 1) else scan (opens b c) (n + adds b c) (i + 1) l) ≡ scanned n i (suc (length (line l))) (quoted b (c ∷ line l))
        → (when t then Open i else when closes b c then Closed n (i + 1) else scan (opens b c) (n + adds b c) (i + 1) l)
        ≡ scanned n i (length {A = ℕ} (elim t [ true ↦ [] | false ↦ c ∷ line l ])) (quoted b (elim t [ true ↦ [] | false ↦ c ∷ line l ]))
    go true e = ap Open (sym (add-zero i))
    go false e = e

-- What the character handed out at a place is, where this string stands there: its first character, and at the place of the next the rest of it; or its end.
abbrev pub Handed : List ℕ → ℕ → Quoted → StringChar → Type 0
Handed s at open' r = Unit {0}
Handed s at (closed [] n) r = r ≡ Done
Handed s at (closed (x ∷ t) n) r = (next : ℕ) × (m : ℕ) × (r ≡ Char x next) × (at < next) × (quoted false (line (from s next)) ≡ closed t m)

-- what is left of a list that begins so
pub from-rest : (s : List ℕ) (i : ℕ) (c : ℕ) (l : List ℕ) → from s i ≡ c ∷ l → from s (i + 1) ≡ l
unfolding from
from-rest s i c l e = sym (drop-drop 1 i s) ∙ ap (drop 1) e

module _ (s : List ℕ) (at : ℕ) where
  -- one character that stays
  kept : (x : ℕ) (q : Quoted) → quoted false (line (from s (at + 1))) ≡ q → Handed s at (put (x ∷ []) q) (Char x (at + 1))
  unfolding put
  kept x open' e = tt
  kept x (closed u m) e = (at + 1, m, refl, omega arith, e)

or_left : (a b : Bool) → (a || b) ≡ false → a ≡ false
or_left true b e = e
or_left false b e = refl

or_right : (a b : Bool) → (a || b) ≡ false → b ≡ false
or_right true b e = never cc
or_right false b e = e

-- a byte that makes no escape is neither a quote nor a backslash
no-quote : (d : ℕ) → is_escape d ≡ false → eqb d 34 ≡ false
unfolding is_escape
no-quote d e = or_right (eqb d 110 || eqb d 114 || eqb d 116 || eqb d 48 || eqb d 92) (eqb d 34) e

no-backslash : (d : ℕ) → is_escape d ≡ false → eqb d 92 ≡ false
unfolding is_escape
no-backslash d e = or_right (eqb d 110 || eqb d 114 || eqb d 116 || eqb d 48) (eqb d 92) (or_left (eqb d 110 || eqb d 114 || eqb d 116 || eqb d 48 || eqb d 92) (eqb d 34) e)

line_on : (c : ℕ) (l : List ℕ) → line_stops c l ≡ false → line (c ∷ l) ≡ c ∷ line l
unfolding line line_stops
line_on c l e = go (line_stops c l) e
  where
    go : (b : Bool) → b ≡ false → (elim b [ true ↦ [] | false ↦ c ∷ line l ]) ≡ c ∷ line l
    go true e = never cc
    go false e = refl

quoted-plain : (c : ℕ) (l : List ℕ) → eqb c 34 ≡ false → eqb c 92 ≡ false → quoted false (c ∷ l) ≡ put (c ∷ []) (quoted false l)
unfolding quoted when◌then◌else◌
quoted-plain c l n m = rw (n, m)

module _ (s : List ℕ) (at : ℕ) where
  -- a backslash, the byte d after it, and l after that
  module _ (d : ℕ) (l : List ℕ) (e : from s (at + 1) ≡ d ∷ l) (ends : line_stops d l ≡ false) where
    escaped : (b : Bool) → is_escape d ≡ b → (q : Quoted) → quoted false (line l) ≡ q → Handed s at (put [] (put (when b then stands_for d ∷ [] else 92 ∷ d ∷ []) q)) (first_of at (when b then stands_for d ∷ [] else 92 ∷ d ∷ []))
    unfolding put when◌then◌else◌
    escaped true i open' p = tt
    escaped false i open' p = tt
    escaped true i (closed u m) p =
        let two : at + 1 + 1 ≡ at + 2 = omega arith in
        let r : from s (at + 2) ≡ l = ap (from s) (sym two) ∙ from-rest s (at + 1) d l e in
        (at + 2, m, refl, omega arith, ap (λ (x : List ℕ). quoted false (line x)) r ∙ p)
    escaped false i (closed u m) p =
        let r : quoted false (line (from s (at + 1))) ≡ closed (d ∷ u) (1 + m) = rw (e, line_on d l ends, quoted-plain d (line l) (no-quote d i) (no-backslash d i), p) in
        (at + 1, 1 + m, refl, omega arith, r)

  back-handed : (l : List ℕ) → from s (at + 1) ≡ l → Handed s at (put [] (quoted true (line l))) (after_backslash at l)
  unfolding put quoted line after_backslash line_stops
  back-handed [] e = tt
  back-handed (d ∷ l) e = go (line_stops d l) refl
    where
      go : (b : Bool) → line_stops d l ≡ b → Handed s at (put [] (quoted true (elim b [ true ↦ [] | false ↦ d ∷ line l ]))) (first_of at (escape d))
      go true b = tt
      go false b = rw (escape-is d) (escaped d l e b (is_escape d) refl (quoted false (line l)) refl)

  -- each place inside a string hands out its next character
  pub char-handed : Handed s at (quoted false (line (from s at))) (char_at at (from s at))
  unfolding quoted line char_at line_stops when◌then◌else◌
  char-handed = by-list (from s at) refl
    where
      by-list : (l : List ℕ) → from s at ≡ l → Handed s at (quoted false (line l)) (char_at at l)
      by-list [] e = tt
      by-list (c ∷ l) e = by-line (line_stops c l)
        where
          by_byte : (q k : Bool) → Handed s at (when q then closed [] 1 else when k then put [] (quoted true (line l)) else put (c ∷ []) (quoted false (line l))) (when q then Done else when k then after_backslash at l else Char c (at + 1))
          by_byte true k = refl
          by_byte false true = back-handed l (from-rest s at c l e)
          by_byte false false = kept s at c (quoted false (line l)) (ap (λ (x : List ℕ). quoted false (line x)) (from-rest s at c l e))

          by-line : (b : Bool) → Handed s at (quoted false (elim b [ true ↦ [] | false ↦ c ∷ line l ])) (char_at at (c ∷ l))
          by-line true = tt
          by-line false = by_byte (eqb c 34) (eqb c 92)
