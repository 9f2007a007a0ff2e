-- Two objects' blocks in one table, where no two of them share an address: they stand one after another, hold what they held, and their counts add up. Assumes nothing.
use mathlib.Core.Path.{◌≡◌, refl, sym, ◌∙◌, ap}
use mathlib.Core.Logic.{◌⊎◌, inl, inr}
use mathlib.Core.Option.{Option, none, some}
use mathlib.Core.List.{List, [], ◌∷◌, ◌++◌}
use Prim.Native.Nat.{ℕ, suc, ◌+◌, ◌≤◌, ◌<◌}
use native.Mathlib.Omega.{arith}
use lib.ListN.{length, length-append}
use Rattle.rules.specs.Tables.{Tri, less, same, more, Table, put, insert, merge, look, Sorted, nat_order, newer, map_t}
use Rattle.rules.specs.Objects.{Cell, cells_from, cells, heads, flat, Full}
use Rattle.rules.specs.Linking.{each_cell}
use Rattle.rules.proofs.Tables.{look-there, lt-ne, none-some}
use Rattle.rules.proofs.Runs.{or_else, look-append, From, run_in, run-from, in-run, left-some, right-some}
use Rattle.rules.proofs.Chains.{Chain, chain-full, cells-chain}

-- TWO BLOCKS APART

-- one ends before the other starts
abbrev pub Past : ℕ × List Cell → ℕ × List Cell → Type 0
Past d e = (d.0 + length d.1 ≤ e.0) ⊎ (e.0 + length e.1 ≤ d.0)

-- a block is apart from each of the others
abbrev pub Apart : ℕ × List Cell → Table ℕ (List Cell) → Type 0
Apart d [] = Unit {0}
Apart d (e ∷ t) = Past d e × Apart d t

-- and so is each block of the first table
abbrev pub AllApart : Table ℕ (List Cell) → Table ℕ (List Cell) → Type 0
AllApart [] t = Unit {0}
AllApart (d ∷ s) t = Apart d t × AllApart s t

-- of two that are apart, the one that starts first ends first
ends : (d e : ℕ × List Cell) → Past d e → 0 < length e.1 → d.0 < e.0 → d.0 + length d.1 ≤ e.0
ends d e (inl h) n l = h
ends d e (inr h) n l = absurd (omega arith)

ends-back : (d e : ℕ × List Cell) → Past d e → 0 < length d.1 → e.0 < d.0 → e.0 + length e.1 ≤ d.0
ends-back d e (inl h) n l = absurd (omega arith)
ends-back d e (inr h) n l = h

unequal : (d e : ℕ × List Cell) → Past d e → 0 < length d.1 → 0 < length e.1 → d.0 ≡ e.0 → ⊥
unequal d e (inl h) m n q = omega arith
unequal d e (inr h) m n q = omega arith

past-cells : (d e : ℕ × List Cell) → Past d e → (x : ℕ) (b c : Cell) → look nat_order (cells_from d.0 d.1) x ≡ some b → look nat_order (cells_from e.0 e.1) x ≡ some c → ⊥
past-cells d e h x b c p q = go h (run-from d.0 d.1 x b p) (run_in d.0 d.1 x b p) (run-from e.0 e.1 x c q) (run_in e.0 e.1 x c q)
  where
    go : Past d e → d.0 ≤ x → x < d.0 + length d.1 → e.0 ≤ x → x < e.0 + length e.1 → ⊥
    go (inl l) a b c f = omega arith
    go (inr l) a b c f = omega arith

-- blocks behind a block are apart from it
chain-apart : (y : ℕ) (d : ℕ × List Cell) (t : Table ℕ (List Cell)) → d.0 + length d.1 ≤ y → Chain y t → Apart d t
chain-apart y d [] l c = tt
chain-apart y d (e ∷ t) l c = (inl (omega (arith, c.0)), chain-apart (e.0 + length e.1) d t (omega (arith, c.0)) c.2)

-- the blocks of a good object
pub good-chain : (b : Table ℕ (List Cell)) → Full b → Sorted nat_order (cells b) → Chain 0 b
good-chain b f s = cells-chain 0 b f s (any-from (cells b))
  where
    any-from : (t : Table ℕ Cell) → From 0 t
    any-from [] = tt
    any-from (e ∷ t) = (omega arith, any-from t)

-- ONE BLOCK MORE

module _ (d : ℕ × List Cell) (n : 0 < length d.1) where
  abbrev added : Table ℕ (List Cell) → Table ℕ (List Cell)
  added t = insert nat_order newer d t

  chain-add : (y : ℕ) (t : Table ℕ (List Cell)) → y ≤ d.0 → Apart d t → Chain y t → Chain y (added t)
  chain-add y [] l a c = (l, n, tt)
  chain-add y (e ∷ t) l a c = go (nat_order.tri d.0 e.0) (λ h. chain-add (e.0 + length e.1) t h a.1 c.2)
    where
      go : (r : Tri ◌<◌ d.0 e.0) → (e.0 + length e.1 ≤ d.0 → Chain (e.0 + length e.1) (added t)) → Chain y (put newer d e t r (added t))
      go (less h) ih = (l, n, (ends d e a.0 c.1 h, c.1, c.2))
      go (same q) ih = absurd (unequal d e a.0 n c.1 q)
      go (more h) ih = (c.0, c.1, ih (ends-back d e a.0 n h))

  look-add : (t : Table ℕ (List Cell)) → Full t → Apart d t → (x : ℕ) → look nat_order (cells (added t)) x ≡ or_else (look nat_order (cells_from d.0 d.1) x) (look nat_order (cells t) x)
  look-add [] f a x = look-append nat_order (cells_from d.0 d.1) [] x
  look-add (e ∷ t) f a x = go (nat_order.tri d.0 e.0) (look-add t f.1 a.1 x)
    where
      swap : (u v w : Option Cell) → ((b c : Cell) → u ≡ some b → v ≡ some c → ⊥) → or_else v (or_else u w) ≡ or_else u (or_else v w)
      swap none v w h = refl
      swap (some b) none w h = refl
      swap (some b) (some c) w h = absurd (h b c refl refl)

      go : (r : Tri ◌<◌ d.0 e.0) → look nat_order (cells (added t)) x ≡ or_else (look nat_order (cells_from d.0 d.1) x) (look nat_order (cells t) x)
          → look nat_order (cells (put newer d e t r (added t))) x ≡ or_else (look nat_order (cells_from d.0 d.1) x) (look nat_order (cells (e ∷ t)) x)
      go (less h) ih = look-append nat_order (cells_from d.0 d.1) (cells (e ∷ t)) x
      go (same q) ih = absurd (unequal d e a.0 n f.0 q)
      go (more h) ih =
          look-append nat_order (cells_from e.0 e.1) (cells (added t)) x
          ∙ (ap (or_else (look nat_order (cells_from e.0 e.1) x)) ih
          ∙ (swap (look nat_order (cells_from d.0 d.1) x) (look nat_order (cells_from e.0 e.1) x) (look nat_order (cells t) x) (past-cells d e a.0 x)
          ∙ ap (or_else (look nat_order (cells_from d.0 d.1) x)) (sym (look-append nat_order (cells_from e.0 e.1) (cells t) x))))

  length-add : (t : Table ℕ (List Cell)) → Full t → Apart d t → length (added t) ≡ suc (length t)
  length-add [] f a = refl
  length-add (e ∷ t) f a = go (nat_order.tri d.0 e.0) (length-add t f.1 a.1)
    where
      go : (r : Tri ◌<◌ d.0 e.0) → length (added t) ≡ suc (length t) → length (put newer d e t r (added t)) ≡ suc (suc (length t))
      go (less h) ih = refl
      go (same q) ih = absurd (unequal d e a.0 n f.0 q)
      go (more h) ih = ap suc ih

  words-add : (t : Table ℕ (List Cell)) → Full t → Apart d t → length (flat (added t)) ≡ length d.1 + length (flat t)
  words-add [] f a = length-append d.1 []
  words-add (e ∷ t) f a = go (nat_order.tri d.0 e.0) (words-add t f.1 a.1)
    where
      go : (r : Tri ◌<◌ d.0 e.0) → length (flat (added t)) ≡ length d.1 + length (flat t) → length (flat (put newer d e t r (added t))) ≡ length d.1 + length (flat (e ∷ t))
      go (less h) ih = length-append d.1 (flat (e ∷ t))
      go (same q) ih = absurd (unequal d e a.0 n f.0 q)
      go (more h) ih = omega (arith, length-append e.1 (flat (added t)), length-append e.1 (flat t))

apart-add : (c d : ℕ × List Cell) (t : Table ℕ (List Cell)) → Past c d → Apart c t → Apart c (insert nat_order newer d t)
apart-add c d [] p a = (p, tt)
apart-add c d (e ∷ t) p a = go (nat_order.tri d.0 e.0) (apart-add c d t p a.1)
  where
    go : (r : Tri ◌<◌ d.0 e.0) → Apart c (insert nat_order newer d t) → Apart c (put newer d e t r (insert nat_order newer d t))
    go (less h) ih = (p, a)
    go (same q) ih = (rw q at p, a.1)
    go (more h) ih = (a.0, ih)

heads-add : (d : ℕ × List Cell) (t : Table ℕ (List Cell)) → heads (insert nat_order newer d t) ≡ insert nat_order newer (d.0, length d.1) (heads t)
heads-add d [] = refl
heads-add d (e ∷ t) = go (nat_order.tri d.0 e.0) (heads-add d t)
  where
    go : (r : Tri ◌<◌ d.0 e.0) → heads (insert nat_order newer d t) ≡ insert nat_order newer (d.0, length d.1) (heads t)
        → heads (put newer d e t r (insert nat_order newer d t)) ≡ put newer (d.0, length d.1) (e.0, length e.1) (heads t) r (insert nat_order newer (d.0, length d.1) (heads t))
    go (less h) ih = refl
    go (same q) ih = refl
    go (more h) ih = ap (λ (r : Table ℕ ℕ). (e.0, length e.1) ∷ r) ih

-- ALL BLOCKS

apart-merge : (c : ℕ × List Cell) (s t : Table ℕ (List Cell)) → Apart c s → Apart c t → Apart c (merge nat_order newer s t)
apart-merge c [] t a b = b
apart-merge c (d ∷ s) t a b = apart-add c d (merge nat_order newer s t) a.0 (apart-merge c s t a.1 b)

-- the starts and lengths of both, whether they share an address or not
pub heads-merge : (s t : Table ℕ (List Cell)) → heads (merge nat_order newer s t) ≡ merge nat_order newer (heads s) (heads t)
heads-merge [] t = refl
heads-merge (d ∷ s) t = heads-add d (merge nat_order newer s t) ∙ ap (insert nat_order newer (d.0, length d.1)) (heads-merge s t)

pub record Merged (s t : Table ℕ (List Cell)) : Type 0 where
  pub chain : Chain 0 (merge nat_order newer s t)
  pub at : (x : ℕ) → look nat_order (cells (merge nat_order newer s t)) x ≡ or_else (look nat_order (cells s) x) (look nat_order (cells t) x)
  pub blocks : length (merge nat_order newer s t) ≡ length s + length t
  pub words : length (flat (merge nat_order newer s t)) ≡ length (flat s) + length (flat t)

or_assoc : {A : Type 0} (u v w : Option A) → or_else u (or_else v w) ≡ or_else (or_else u v) w
or_assoc none v w = refl
or_assoc (some u) v w = refl

pub merged : (y : ℕ) (s t : Table ℕ (List Cell)) → Chain y s → Chain 0 t → AllApart s t → Merged s t
merged y [] t c k a = record { chain = k; at = λ x. refl; blocks = omega arith; words = omega arith }
merged y (d ∷ s) t c k a = go (merged (d.0 + length d.1) s t c.2 k a.1)
  where
    apart : Apart d (merge nat_order newer s t)
    apart = apart-merge d s t (chain-apart (d.0 + length d.1) d s (omega arith) c.2) a.0

    go : Merged s t → Merged (d ∷ s) t
    go M =
        let f : Full (merge nat_order newer s t) = chain-full 0 (merge nat_order newer s t) M.chain in
        record {
          chain = chain-add d c.1 0 (merge nat_order newer s t) (omega arith) apart M.chain;
          at = λ x.
              look-add d c.1 (merge nat_order newer s t) f apart x
              ∙ (ap (or_else (look nat_order (cells_from d.0 d.1) x)) (M.at x)
              ∙ (or_assoc (look nat_order (cells_from d.0 d.1) x) (look nat_order (cells s) x) (look nat_order (cells t) x)
              ∙ ap (λ (u : Option Cell). or_else u (look nat_order (cells t) x)) (sym (look-append nat_order (cells_from d.0 d.1) (cells s) x))));
          blocks = length-add d c.1 (merge nat_order newer s t) f apart ∙ omega (arith, M.blocks);
          words = omega (arith, words-add d c.1 (merge nat_order newer s t) f apart, M.words, length-append d.1 (flat s));
        }

-- EACH WORD CHANGED IN ITS PLACE

abbrev pub turned : (ℕ → Cell → Cell) → Table ℕ (List Cell) → Table ℕ (List Cell)
turned f b = map_t (λ s cs. each_cell f s cs) b

pub length-each : (f : ℕ → Cell → Cell) (s : ℕ) (c : List Cell) → length (each_cell f s c) ≡ length c
unfolding each_cell
length-each f s [] = refl
length-each f s (x ∷ c) = ap suc (length-each f (suc s) c)

cells-each : (f : ℕ → Cell → Cell) (s : ℕ) (c : List Cell) (r q : Table ℕ Cell) → r ≡ map_t f q → cells_from s (each_cell f s c) ++ r ≡ map_t f (cells_from s c ++ q)
unfolding each_cell
cells-each f s [] r q h = h
cells-each f s (x ∷ c) r q h = ap (λ (t : Table ℕ Cell). (s, f s x) ∷ t) (cells-each f (suc s) c r q h)

pub cells-turned : (f : ℕ → Cell → Cell) (b : Table ℕ (List Cell)) → cells (turned f b) ≡ map_t f (cells b)
cells-turned f [] = refl
cells-turned f (d ∷ b) = cells-each f d.0 d.1 (cells (turned f b)) (cells b) (cells-turned f b)

pub heads-turned : (f : ℕ → Cell → Cell) (b : Table ℕ (List Cell)) → heads (turned f b) ≡ heads b
heads-turned f [] = refl
heads-turned f (d ∷ b) = let p = length-each f d.0 d.1 in let q = heads-turned f b in λ i. (d.0, p i) ∷ q i

pub full-turned : (f : ℕ → Cell → Cell) (b : Table ℕ (List Cell)) → Full b → Full (turned f b)
full-turned f [] h = tt
full-turned f (d ∷ b) h = (rw (length-each f d.0 d.1) h.0, full-turned f b h.1)

pub words-turned : (f : ℕ → Cell → Cell) (b : Table ℕ (List Cell)) → length (flat (turned f b)) ≡ length (flat b)
words-turned f [] = refl
words-turned f (d ∷ b) =
    omega (arith, length-append (each_cell f d.0 d.1) (flat (turned f b)), length-append d.1 (flat b), length-each f d.0 d.1, words-turned f b)

-- where a block starts there is a word
pub start-held : (b : Table ℕ (List Cell)) → Full b → (s k : ℕ) → look nat_order (heads b) s ≡ some k → (c : Cell) × (look nat_order (cells b) s ≡ some c)
start-held [] f s k q = absurd (none-some q)
start-held (d ∷ b) f s k q = go (nat_order.tri s d.0) (start-held b f.1 s k)
  where
    later : (s ≡ d.0 → ⊥) → (look nat_order (heads b) s ≡ some k → (c : Cell) × (look nat_order (cells b) s ≡ some c)) → (c : Cell) × (look nat_order (cells (d ∷ b)) s ≡ some c)
    later n ih =
        let r = ih (sym (look-there nat_order (d.0, length d.1) (heads b) s n) ∙ q) in
        let t = right-some (look nat_order (cells_from d.0 d.1) s) (look nat_order (cells b) s) r.0 r.1 in
        (t.0, look-append nat_order (cells_from d.0 d.1) (cells b) s ∙ t.1)

    go : Tri ◌<◌ s d.0 → (look nat_order (heads b) s ≡ some k → (c : Cell) × (look nat_order (cells b) s ≡ some c)) → (c : Cell) × (look nat_order (cells (d ∷ b)) s ≡ some c)
    go (less m) ih = later (lt-ne nat_order s d.0 m) ih
    go (same p) ih =
        let r = in-run d.0 d.1 s (omega arith) (omega (arith, f.0)) in
        (r.0, look-append nat_order (cells_from d.0 d.1) (cells b) s ∙ left-some (look nat_order (cells_from d.0 d.1) s) (look nat_order (cells b) s) r.0 r.1)
    go (more m) ih = later (λ (p : s ≡ d.0). lt-ne nat_order d.0 s m (sym p)) ih
