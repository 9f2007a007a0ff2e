-- Two entries that clash: in any order of a list, and in two lists put together or the two objects that these make. Assumes nothing.
use mathlib.Core.Path.{◌≡◌, refl, sym, ◌∙◌}
use mathlib.Core.Logic.{◌⊎◌, inl, inr}
use mathlib.Core.List.Memᴰ
use mathlib.Core.List.{List, [], ◌∷◌, ◌++◌, Memᴰ, Permᴰ}
use Rattle.rules.specs.Objects.{defined, Object}
use Rattle.laws_link.specs.Joins.{Clash, TwoClash}
use Rattle.laws_link.proofs.Meanings.{overlap-clash, differ-clash}
use Rattle.laws_link.proofs.Gathers.{Gathers, mem-perm, defines}

pub lonely : (o : Object) → TwoClash (o ∷ []) → ⊥
lonely o (inl h) = Memᴰ.not-nil h.1
lonely o (inr h) = h

clash-sym : (e f : Object) → Clash e f → Clash f e
clash-sym e f (inl w) = overlap-clash f e (w.0, w.2, w.1, w.4, w.3)
clash-sym e f (inr w) = differ-clash f e (w.0, w.2, w.1, w.4, w.3, λ (q : w.2 ≡ w.1). w.5 (sym q))

two-swap : (a b c d : Object) (l : List Object) → a ≡ d → b ≡ c → (f : Object) → Memᴰ f (b ∷ l) → Clash a f → TwoClash (c ∷ d ∷ l)
two-swap a b c d l p q f (Memᴰ.head r) k = inl (d, Memᴰ.head refl, clash-sym d c (rw (p, r ∙ q) at k))
two-swap a b c d l p q f (Memᴰ.tail m) k = inr (inl (f, m, rw p at k))

pub two-perm : {k l : List Object} → Permᴰ k l → TwoClash k → TwoClash l
two-perm Permᴰ.nil t = t
two-perm (Permᴰ.cons {a = a} {b = b} q d) (inl w) = inl (w.0, mem-perm w.0 d w.1, rw q at w.2)
two-perm (Permᴰ.cons q d) (inr t) = inr (two-perm d t)
two-perm (Permᴰ.swap {a = a} {b = b} {a' = c} {b' = d} {l = l} p q) (inl w) = two-swap a b c d l p q w.0 w.1 w.2
two-perm (Permᴰ.swap p q) (inr (inl w)) = inl (w.0, Memᴰ.tail w.1, rw q at w.2)
two-perm (Permᴰ.swap p q) (inr (inr t)) = inr (inr t)
two-perm (Permᴰ.trans c d) t = two-perm d (two-perm c t)

-- IN TWO LISTS PUT TOGETHER

pub two-left : (k l : List Object) → TwoClash k → TwoClash (k ++ l)
two-left [] l t = absurd t
two-left (e ∷ k) l (inl w) = inl (w.0, Memᴰ.append_left l w.1, w.2)
two-left (e ∷ k) l (inr t) = inr (two-left k l t)

pub two-right : (k l : List Object) → TwoClash l → TwoClash (k ++ l)
two-right [] l t = t
two-right (e ∷ k) l t = inr (two-right k l t)

-- an entry of the one and one of the other
abbrev Cross : List Object → List Object → Type 0
Cross k l = (e : Object) × (f : Object) × Memᴰ e k × Memᴰ f l × Clash e f

two-cross : (k l : List Object) (e f : Object) → Memᴰ e k → Memᴰ f l → Clash e f → TwoClash (k ++ l)
two-cross [] l e f m n c = elim m [ ]
two-cross (d ∷ k) l e f (Memᴰ.head q) n c = inl (f, Memᴰ.append_right k n, rw q at c)
two-cross (d ∷ k) l e f (Memᴰ.tail m) n c = inr (two-cross k l e f m n c)

two_cases : (k l : List Object) → TwoClash (k ++ l) → TwoClash k ⊎ (TwoClash l ⊎ Cross k l)
two_cases [] l t = inr (inl t)
two_cases (e ∷ k) l (inl w) = go (Memᴰ.append_cases k w.1)
  where
    go : Memᴰ w.0 k ⊎ Memᴰ w.0 l → TwoClash (e ∷ k) ⊎ (TwoClash l ⊎ Cross (e ∷ k) l)
    go (inl m) = inl (inl (w.0, m, w.2))
    go (inr m) = inr (inr (e, w.0, Memᴰ.head refl, m, w.2))
two_cases (e ∷ k) l (inr t) = go (two_cases k l t)
  where
    go : TwoClash k ⊎ (TwoClash l ⊎ Cross k l) → TwoClash (e ∷ k) ⊎ (TwoClash l ⊎ Cross (e ∷ k) l)
    go (inl t) = inl (inr t)
    go (inr (inl t)) = inr (inl t)
    go (inr (inr w)) = inr (inr (w.0, w.1, Memᴰ.tail w.2, w.3, w.4))

-- IN WHAT THE TWO LISTS MAKE

module _ (k l : List Object) (a b : Object) (A : Gathers k a) (B : Gathers l b) where
  clash-up : (e f : Object) → Memᴰ e k → Memᴰ f l → Clash e f → Clash a b
  clash-up e f m n (inl w) = overlap-clash a b (w.0, _, _, A.cell-up e m w.0 w.1 w.3, B.cell-up f n w.0 w.2 w.4)
  clash-up e f m n (inr w) = differ-clash a b (w.0, w.1, w.2, defines k a e A m w.0 w.1 w.3, defines l b f B n w.0 w.2 w.4, w.5)

  clash-down : Clash a b → Cross k l
  clash-down (inl w) =
      let u = A.cell-of w.0 w.1 w.3 in
      let v = B.cell-of w.0 w.2 w.4 in
      (u.0, v.0, u.1, v.1, overlap-clash u.0 v.0 (w.0, u.2, v.2, u.3, v.3))
  clash-down (inr w) =
      let u = A.lab-of w.0 (defined w.1) w.3 in
      let v = B.lab-of w.0 (defined w.2) w.4 in
      (u.0, v.0, u.1, v.1, differ-clash u.0 v.0 (w.0, w.1, w.2, u.2, v.2, w.5))

  pub clash-two : Clash a b → TwoClash (k ++ l)
  clash-two c = let h = clash-down c in two-cross k l h.0 h.1 h.2 h.3 h.4

  -- where nothing clashes in either and the two objects do not, nothing clashes in both
  pub no-two : (TwoClash k → ⊥) → (TwoClash l → ⊥) → (Clash a b → ⊥) → TwoClash (k ++ l) → ⊥
  no-two p q n t = go (two_cases k l t)
    where
      go : TwoClash k ⊎ (TwoClash l ⊎ Cross k l) → ⊥
      go (inl h) = p h
      go (inr (inl h)) = q h
      go (inr (inr h)) = n (clash-up h.0 h.1 h.2 h.3 h.4)
