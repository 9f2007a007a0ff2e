-- What a list of objects makes, said by the labels of what they make: so it goes through any order and any grouping. Assumes nothing.
use mathlib.Core.Path.{◌≡◌, refl, sym, ◌∙◌, ap}
use mathlib.Core.Logic.{◌⊎◌, inl, inr}
use mathlib.Core.Option.{Option, none, some}
use mathlib.Core.List.Memᴰ
use mathlib.Core.List.Permᴰ
use mathlib.Core.List.{List, [], ◌∷◌, ◌++◌, Memᴰ, Permᴰ}
use Prim.Native.Nat.{ℕ}
use Rattle.rules.specs.Objects.{Cell, word, Lab, outer, defined, Name, Object, head_at, cell_at, lab_of, rel_at, Good}
use Rattle.rules.specs.Linking.{settle, patch, stay}
use Rattle.rules.proofs.Bools.{never}
use Rattle.rules.proofs.Tables.{none-some}

-- what becomes of a relocation where labs are the labels
abbrev pub keep : (Name → Option Lab) → Option Name → Option Name
keep labs none = none
keep labs (some n) = stay n (labs n)

-- the second says all that the first says of a name
abbrev pub Under : Option Lab → Option Lab → Type 0
Under none v = Unit {0}
Under (some outer) none = ⊥
Under (some outer) (some v) = Unit {0}
Under (some (defined a)) none = ⊥
Under (some (defined a)) (some outer) = ⊥
Under (some (defined a)) (some (defined b)) = a ≡ b

-- o has what the entries of l have, each word and relocation settled by the labels of o, and nothing else
pub record Gathers (l : List Object) (o : Object) : Type 0 where
  pub head-up : (e : Object) → Memᴰ e l → (s k : ℕ) → head_at e s ≡ some k → head_at o s ≡ some k
  pub head_of : (s k : ℕ) → head_at o s ≡ some k → (e : Object) × Memᴰ e l × (head_at e s ≡ some k)
  pub lab-up : (e : Object) → Memᴰ e l → (n : Name) → Under (lab_of e n) (lab_of o n)
  pub lab-of : (n : Name) (v : Lab) → lab_of o n ≡ some v → (e : Object) × Memᴰ e l × (lab_of e n ≡ some v)
  pub cell-up : (e : Object) → Memᴰ e l → (x : ℕ) (c : Cell) → cell_at e x ≡ some c → cell_at o x ≡ some (patch (lab_of o) (rel_at e x) c)
  pub cell-of : (x : ℕ) (c : Cell) → cell_at o x ≡ some c → (e : Object) × Memᴰ e l × (d : Cell) × (cell_at e x ≡ some d)
  pub rel-up : (e : Object) → Memᴰ e l → (x : ℕ) (c : Cell) → cell_at e x ≡ some c → rel_at o x ≡ keep (lab_of o) (rel_at e x)

-- ONE OBJECT ALONE

pub under-refl : (v : Option Lab) → Under v v
under-refl none = tt
under-refl (some outer) = tt
under-refl (some (defined a)) = refl

under-trans : (u v w : Option Lab) → Under u v → Under v w → Under u w
under-trans none v w h k = tt
under-trans (some outer) none w h k = absurd h
under-trans (some outer) (some outer) w h k = k
under-trans (some outer) (some (defined b)) none h k = absurd k
under-trans (some outer) (some (defined b)) (some c) h k = tt
under-trans (some (defined a)) none w h k = absurd h
under-trans (some (defined a)) (some outer) w h k = absurd h
under-trans (some (defined a)) (some (defined b)) none h k = absurd k
under-trans (some (defined a)) (some (defined b)) (some outer) h k = absurd k
under-trans (some (defined a)) (some (defined b)) (some (defined c)) h k = h ∙ k

-- its own labels settle nothing: they have its relocations' names as externals
still : (o : Object) → Good o → (x : ℕ) (c : Cell) → patch (lab_of o) (rel_at o x) c ≡ c
still o g x c = go (rel_at o x) refl
  where
    go : (r : Option Name) → rel_at o x ≡ r → patch (lab_of o) r c ≡ c
    go none q = refl
    go (some n) q = ap (λ (v : Option Lab). settle v c) (g.reloc_outer x n q)

kept : (o : Object) → Good o → (x : ℕ) → keep (lab_of o) (rel_at o x) ≡ rel_at o x
kept o g x = go (rel_at o x) refl
  where
    go : (r : Option Name) → rel_at o x ≡ r → keep (lab_of o) r ≡ r
    go none q = refl
    go (some n) q = ap (stay n) (g.reloc_outer x n q)

pub gathers-one : (o : Object) → Good o → Gathers (o ∷ []) o
gathers-one o g = record {
  head-up = λ e m s k q. rw (Memᴰ.eq_of_singleton m) at q;
  head_of = λ s k q. (o, Memᴰ.head refl, q);
  lab-up = λ e m n. rw (Memᴰ.eq_of_singleton m) (under-refl (lab_of o n));
  lab-of = λ n v q. (o, Memᴰ.head refl, q);
  cell-up = λ e m x c q. rw (Memᴰ.eq_of_singleton m) ((rw (Memᴰ.eq_of_singleton m) at q) ∙ ap (λ (d : Cell). some d) (sym (still o g x c)));
  cell-of = λ x c q. (o, Memᴰ.head refl, c, q);
  rel-up = λ e m x c q. rw (Memᴰ.eq_of_singleton m) (sym (kept o g x));
}

-- SETTLED TWICE IS SETTLED ONCE, by the labels that say more

word-of : (a : ℕ) (w : Option Lab) (c : Cell) → Under (some (defined a)) w → word a ≡ settle w c
word-of a none c h = absurd h
word-of a (some outer) c h = absurd h
word-of a (some (defined b)) c h = ap word h

gone : (a : ℕ) (w : Option Lab) (n : Name) → Under (some (defined a)) w → none ≡ stay n w
gone a none n h = absurd h
gone a (some outer) n h = absurd h
gone a (some (defined b)) n h = refl

settle-twice : (L : Name → Option Lab) (n : Name) (v : Option Lab) (c : Cell) → Under v (L n) → patch L (stay n v) (settle v c) ≡ settle (L n) c
settle-twice L n none c h = refl
settle-twice L n (some outer) c h = refl
settle-twice L n (some (defined a)) c h = word-of a (L n) c h

stay-twice : (L : Name → Option Lab) (n : Name) (v : Option Lab) → Under v (L n) → keep L (stay n v) ≡ stay n (L n)
stay-twice L n none h = refl
stay-twice L n (some outer) h = refl
stay-twice L n (some (defined a)) h = gone a (L n) n h

patch-twice : (M L : Name → Option Lab) → ((n : Name) → Under (M n) (L n)) → (r : Option Name) (c : Cell) → patch L (keep M r) (patch M r c) ≡ patch L r c
patch-twice M L h none c = refl
patch-twice M L h (some n) c = settle-twice L n (M n) c (h n)

keep-twice : (M L : Name → Option Lab) → ((n : Name) → Under (M n) (L n)) → (r : Option Name) → keep L (keep M r) ≡ keep L r
keep-twice M L h none = refl
keep-twice M L h (some n) = stay-twice L n (M n) (h n)

-- ANY GROUPING

-- the objects of p are made of the entries of l, each of some of them, and all are used
record Spread (p l : List Object) : Type 0 where
  part : (a : Object) → Memᴰ a p → (k : List Object) × Gathers k a × ((e : Object) → Memᴰ e k → Memᴰ e l)
  used : (e : Object) → Memᴰ e l → (a : Object) × Memᴰ a p × (k : List Object) × Gathers k a × Memᴰ e k

gathers-spread : (p l : List Object) (o : Object) → Spread p l → Gathers p o → Gathers l o
gathers-spread p l o S P = record {
  head-up = λ e m s k q.
      let u = S.used e m in
      P.head-up u.0 u.1 s k (u.3.head-up e u.4 s k q);
  head_of = λ s k q.
      let w = P.head_of s k q in
      let t = S.part w.0 w.1 in
      let z = t.1.head_of s k w.2 in
      (z.0, t.2 z.0 z.1, z.2);
  lab-up = λ e m n.
      let u = S.used e m in
      under-trans (lab_of e n) (lab_of u.0 n) (lab_of o n) (u.3.lab-up e u.4 n) (P.lab-up u.0 u.1 n);
  lab-of = λ n v q.
      let w = P.lab-of n v q in
      let t = S.part w.0 w.1 in
      let z = t.1.lab-of n v w.2 in
      (z.0, t.2 z.0 z.1, z.2);
  cell-up = λ e m x c q.
      let u = S.used e m in
      let h = u.3.cell-up e u.4 x c q in
      let r = u.3.rel-up e u.4 x c q in
      let f = P.cell-up u.0 u.1 x (patch (lab_of u.0) (rel_at e x) c) h in
      f ∙ (ap (λ (y : Option Name). some (patch (lab_of o) y (patch (lab_of u.0) (rel_at e x) c))) r
      ∙ ap (λ (d : Cell). some d) (patch-twice (lab_of u.0) (lab_of o) (P.lab-up u.0 u.1) (rel_at e x) c));
  cell-of = λ x c q.
      let w = P.cell-of x c q in
      let t = S.part w.0 w.1 in
      let z = t.1.cell-of x w.2 w.3 in
      (z.0, t.2 z.0 z.1, z.2, z.3);
  rel-up = λ e m x c q.
      let u = S.used e m in
      let h = u.3.cell-up e u.4 x c q in
      let r = u.3.rel-up e u.4 x c q in
      P.rel-up u.0 u.1 x (patch (lab_of u.0) (rel_at e x) c) h
      ∙ (ap (λ (y : Option Name). keep (lab_of o) y) r ∙ keep-twice (lab_of u.0) (lab_of o) (P.lab-up u.0 u.1) (rel_at e x));
}

spread-two : (k l : List Object) (a b : Object) → Gathers k a → Gathers l b → Spread (a ∷ b ∷ []) (k ++ l)
spread-two k l a b A B = record { part = part; used = λ e m. used e (Memᴰ.append_cases k m) }
  where
    part : (c : Object) → Memᴰ c (a ∷ b ∷ []) → (j : List Object) × Gathers j c × ((e : Object) → Memᴰ e j → Memᴰ e (k ++ l))
    part c (Memᴰ.head q) = (k, rw q A, λ e m. Memᴰ.append_left l m)
    part c (Memᴰ.tail m) = (l, rw (Memᴰ.eq_of_singleton m) B, λ e n. Memᴰ.append_right k n)

    used : (e : Object) → Memᴰ e k ⊎ Memᴰ e l → (c : Object) × Memᴰ c (a ∷ b ∷ []) × (j : List Object) × Gathers j c × Memᴰ e j
    used e (inl m) = (a, Memᴰ.head refl, k, A, m)
    used e (inr m) = (b, Memᴰ.tail (Memᴰ.head refl), l, B, m)

pub gathers-two : (k l : List Object) (a b o : Object) → Gathers k a → Gathers l b → Gathers (a ∷ b ∷ []) o → Gathers (k ++ l) o
gathers-two k l a b o A B P = gathers-spread (a ∷ b ∷ []) (k ++ l) o (spread-two k l a b A B) P

-- ANY ORDER

pub mem-perm : (e : Object) {k l : List Object} → Permᴰ k l → Memᴰ e k → Memᴰ e l
mem-perm e Permᴰ.nil m = m
mem-perm e (Permᴰ.cons q d) (Memᴰ.head p) = Memᴰ.head (p ∙ q)
mem-perm e (Permᴰ.cons q d) (Memᴰ.tail m) = Memᴰ.tail (mem-perm e d m)
mem-perm e (Permᴰ.swap p q) (Memᴰ.head r) = Memᴰ.tail (Memᴰ.head (r ∙ p))
mem-perm e (Permᴰ.swap p q) (Memᴰ.tail (Memᴰ.head r)) = Memᴰ.head (r ∙ q)
mem-perm e (Permᴰ.swap p q) (Memᴰ.tail (Memᴰ.tail m)) = Memᴰ.tail (Memᴰ.tail m)
mem-perm e (Permᴰ.trans c d) m = mem-perm e d (mem-perm e c m)

pub gathers-perm : (k l : List Object) (o : Object) → Permᴰ k l → Gathers k o → Gathers l o
gathers-perm k l o d J = record {
  head-up = λ e m. J.head-up e (mem-perm e (Permᴰ.symm d) m);
  head_of = λ s n q. let w = J.head_of s n q in (w.0, mem-perm w.0 d w.1, w.2);
  lab-up = λ e m. J.lab-up e (mem-perm e (Permᴰ.symm d) m);
  lab-of = λ n v q. let w = J.lab-of n v q in (w.0, mem-perm w.0 d w.1, w.2);
  cell-up = λ e m. J.cell-up e (mem-perm e (Permᴰ.symm d) m);
  cell-of = λ x c q. let w = J.cell-of x c q in (w.0, mem-perm w.0 d w.1, w.2, w.3);
  rel-up = λ e m. J.rel-up e (mem-perm e (Permᴰ.symm d) m);
}

-- what an entry defines, the whole defines
defined-up : (a : ℕ) (w : Option Lab) → Under (some (defined a)) w → w ≡ some (defined a)
defined-up a none h = absurd h
defined-up a (some outer) h = absurd h
defined-up a (some (defined b)) h = ap (λ (m : ℕ). some (defined m)) (sym h)

pub defines : (l : List Object) (o e : Object) → Gathers l o → Memᴰ e l → (n : Name) (a : ℕ) → lab_of e n ≡ some (defined a) → lab_of o n ≡ some (defined a)
defines l o e J m n a q = defined-up a (lab_of o n) (rw q at (J.lab-up e m n))

-- A RELOCATION THAT STAYS: its name is not defined, and its word is left

pub some_same : {A : Type 0} {x y : A} → some x ≡ some y → x ≡ y
some_same q = cc

stay-some : (n m : Name) (v : Option Lab) → stay n v ≡ some m → (n ≡ m) × ((a : ℕ) → v ≡ some (defined a) → ⊥)
stay-some n m none q = (some_same q, λ (a : ℕ) (e : none ≡ some (defined a)). none-some e)
stay-some n m (some outer) q = (some_same q, λ (a : ℕ) (e : some outer ≡ some (defined a)). never cc)
stay-some n m (some (defined a)) q = absurd (none-some q)

pub settle-open : (v : Option Lab) (c : Cell) → ((a : ℕ) → v ≡ some (defined a) → ⊥) → settle v c ≡ c
settle-open none c h = refl
settle-open (some outer) c h = refl
settle-open (some (defined a)) c h = absurd (h a refl)

pub outer-up : (v : Option Lab) → Under (some outer) v → ((a : ℕ) → v ≡ some (defined a) → ⊥) → v ≡ some outer
outer-up none u h = absurd u
outer-up (some outer) u h = refl
outer-up (some (defined a)) u h = absurd (h a refl)

pub keep_some : (labs : Name → Option Lab) (r : Option Name) (n : Name) → keep labs r ≡ some n → (r ≡ some n) × ((a : ℕ) → labs n ≡ some (defined a) → ⊥)
keep_some labs none n q = absurd (none-some q)
keep_some labs (some m) n q = let w = stay-some m n (labs m) q in (ap (λ (k : Name). some k) w.0, rw w.0 at w.1)
