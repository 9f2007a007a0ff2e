-- Sorted tables, which stand for the Rust's `HashMap` and `BTreeMap`: lists of key and value, strictly rising by a total order on keys. Assumes nothing.
use Rattle.std.specs.Prelude.{◌≡◌, refl, ◌⊎◌, Bool, false, ◌||◌, List, [], ◌∷◌, ℕ, ◌<◌}
use Rattle.std.proofs.Common.{sym, ◌∙◌, inl, inr, lt_irrefl, lt_trans, arith}
use Rattle.std.proofs.Math.Option.{Option, none, some}
use Rattle.std.proofs.Math.Decide.{dec_lt}

-- ORDERS

-- which of two keys is the lesser, with the reason
pub data Tri {K : Type 0} (R : K → K → Type 0) (a b : K) : Type 0 where
  less : R a b → Tri R a b
  same : a ≡ b → Tri R a b
  more : R b a → Tri R a b

-- a strict total order
pub record Order (K : Type 0) : Type 1 where
  pub lt : K → K → Type 0
  pub irr : (a : K) → lt a a → ⊥
  pub trans : (a b c : K) → lt a b → lt b c → lt a c
  pub tri : (a b : K) → Tri lt a b

-- numbers by size
unfoldable pub nat-tri : (a b : ℕ) → Tri ◌<◌ a b
nat-tri a b = go (dec_lt a b) (dec_lt b a)
  where
    go : Dec (a < b) → Dec (b < a) → Tri ◌<◌ a b
    go (yes h) r = less h
    go (no n) (yes h) = more h
    go (no n) (no m) = same (omega arith)

abbrev pub nat_order : Order ℕ
nat_order = record { lt = ◌<◌; irr = lt_irrefl; trans = λ a b c h k. lt_trans h k; tri = nat-tri }

-- names bytewise: the first ends first, or is less where they first differ
abbrev pub Before : List ℕ → List ℕ → Type 0
Before [] [] = ⊥
Before [] (b ∷ t) = Unit {0}
Before (a ∷ s) [] = ⊥
Before (a ∷ s) (b ∷ t) = (a < b) ⊎ ((a ≡ b) × Before s t)

pub before_irr : (s : List ℕ) → Before s s → ⊥
before_irr [] h = h
before_irr (a ∷ s) (inl h) = lt_irrefl a h
before_irr (a ∷ s) (inr h) = before_irr s h.1

pub before_trans : (r s t : List ℕ) → Before r s → Before s t → Before r t
before_trans [] [] t h k = absurd h
before_trans [] (b ∷ s) [] h k = absurd k
before_trans [] (b ∷ s) (c ∷ t) h k = tt
before_trans (a ∷ r) [] t h k = absurd h
before_trans (a ∷ r) (b ∷ s) [] h k = absurd k
before_trans (a ∷ r) (b ∷ s) (c ∷ t) (inl h) (inl k) = inl (omega arith)
before_trans (a ∷ r) (b ∷ s) (c ∷ t) (inl h) (inr k) = inl (omega arith)
before_trans (a ∷ r) (b ∷ s) (c ∷ t) (inr h) (inl k) = inl (omega arith)
before_trans (a ∷ r) (b ∷ s) (c ∷ t) (inr h) (inr k) = inr (h.0 ∙ k.0, before_trans r s t h.1 k.1)

unfoldable pub before_tri : (s t : List ℕ) → Tri Before s t
before_tri [] [] = same refl
before_tri [] (b ∷ t) = less tt
before_tri (a ∷ s) [] = more tt
before_tri (a ∷ s) (b ∷ t) = go (nat-tri a b) (before_tri s t)
  where
    go : Tri ◌<◌ a b → Tri Before s t → Tri Before (a ∷ s) (b ∷ t)
    go (less h) r = less (inl h)
    go (more h) r = more (inl h)
    go (same e) (less h) = less (inr (e, h))
    go (same e) (more h) = more (inr (sym e, h))
    go (same e) (same r) = same (cc)

abbrev pub name_order : Order (List ℕ)
name_order = record { lt = Before; irr = before_irr; trans = before_trans; tri = before_tri }

-- TABLES

abbrev pub Table : Type 0 → Type 0 → Type 0
Table K U = List (K × U)

abbrev pub pick : {K U : Type 0} {R : K → K → Type 0} {a b : K} → Tri R a b → U → Option U → Option U
pick (less h) v r = r
pick (same e) v r = some v
pick (more h) v r = r

abbrev pub put : {K U : Type 0} {R : K → K → Type 0} (f : U → U → U) (d e : K × U) (t : Table K U) → Tri R d.0 e.0 → Table K U → Table K U
put f d e t (less h) r = d ∷ e ∷ t
put f d e t (same q) r = (e.0, f d.1 e.1) ∷ t
put f d e t (more h) r = e ∷ r

module _ {K U : Type 0} (O : Order K) where
  -- the value that a table gives a key
  abbrev pub look : Table K U → K → Option U
  look [] k = none
  look (e ∷ t) k = pick (O.tri k e.0) e.1 (look t k)

  -- every key of the table is above k
  abbrev pub Low : K → Table K U → Type 0
  Low k [] = Unit {0}
  Low k (e ∷ t) = O.lt k e.0 × Low k t

  -- the keys rise
  abbrev pub Sorted : Table K U → Type 0
  Sorted [] = Unit {0}
  Sorted (e ∷ t) = Low e.0 t × Sorted t

  -- one entry more: where the key is there, f joins its value with the one that it had
  abbrev pub insert : (U → U → U) → K × U → Table K U → Table K U
  insert f d [] = d ∷ []
  insert f d (e ∷ t) = put f d e t (O.tri d.0 e.0) (insert f d t)

  -- both tables in one
  abbrev pub merge : (U → U → U) → Table K U → Table K U → Table K U
  merge f [] t = t
  merge f (d ∷ s) t = insert f d (merge f s t)

-- of two values for a key, the one put in now
abbrev pub newer : {U : Type 0} → U → U → U
newer u v = u

-- each value changed, with its key at hand
abbrev pub map_t : {K U W : Type 0} → (K → U → W) → Table K U → Table K W
map_t f [] = []
map_t f (e ∷ t) = (e.0, f e.0 e.1) ∷ map_t f t

-- each value goes through f, and is dropped where that is nothing
abbrev pub hold : {K U : Type 0} → K → Option U → Table K U → Table K U
hold k none t = t
hold k (some u) t = (k, u) ∷ t

abbrev pub sieve : {K U : Type 0} → (U → Option U) → Table K U → Table K U
sieve f [] = []
sieve f (e ∷ t) = hold e.0 (f e.1) (sieve f t)

-- some entry passes a test
abbrev pub any : {A : Type 0} → (A → Bool) → List A → Bool
any p [] = false
any p (x ∷ xs) = p x || any p xs

-- whoever unfolds `sorting` lets tables compute
unfoldable pub sorting : Unit {0}
unfolding dec_lt nat-tri before_tri
sorting = tt
