-- Laws of sorted tables: what is found, what an insertion and a merge give, and that two sorted tables that say the same are one. Assumes nothing.
use mathlib.Core.Path.{◌≡◌, refl, sym, ◌∙◌, ap}
use mathlib.Core.Option.{Option, none, some}
use mathlib.Core.List.{[], ◌∷◌}
use Prim.Native.Nat.{suc, ◌+◌, ◌≤◌}
use native.Mathlib.Omega.{arith}
use lib.ListN.{length}
use Rattle.rules.specs.Tables.{Tri, less, same, more, Order, Table, pick, put, look, Low, Sorted, insert, merge}
use Rattle.rules.proofs.Bools.{never}

-- nothing is something
pub none-some : {A : Type 0} {x : A} → ◌≡◌ {A = Option A} none (some x) → ⊥
none-some e = never cc

pub lt-ne : {K : Type 0} (O : Order K) (a b : K) → O.lt a b → a ≡ b → ⊥
lt-ne O a b h e = O.irr b (rw e at h)

-- two values that a key may have, joined
abbrev pub join : {U : Type 0} → (U → U → U) → Option U → Option U → Option U
join f none v = v
join f (some u) none = some u
join f (some u) (some v) = some (f u v)

module _ {K U : Type 0} (O : Order K) where
  pub look-here : (e : K × U) (t : Table K U) (k : K) → k ≡ e.0 → look O (e ∷ t) k ≡ some e.1
  look-here e t k q = go (O.tri k e.0)
    where
      go : (c : Tri O.lt k e.0) → pick c e.1 (look O t k) ≡ some e.1
      go (less h) = absurd (O.irr k (rw (← q) at h))
      go (same p) = refl
      go (more h) = absurd (O.irr k (rw (← q) at h))

  pub look-there : (e : K × U) (t : Table K U) (k : K) → (k ≡ e.0 → ⊥) → look O (e ∷ t) k ≡ look O t k
  look-there e t k q = go (O.tri k e.0)
    where
      go : (c : Tri O.lt k e.0) → pick c e.1 (look O t k) ≡ look O t k
      go (less h) = refl
      go (same p) = absurd (q p)
      go (more h) = refl

  pub low-down : (j k : K) (t : Table K U) → O.lt j k → Low O k t → Low O j t
  low-down j k [] h l = tt
  low-down j k (e ∷ t) h l = (O.trans j k e.0 h l.0, low-down j k t h l.1)

  pub look-low : (k : K) (t : Table K U) → Low O k t → look O t k ≡ none
  look-low k [] l = refl
  look-low k (e ∷ t) l = look-there e t k (lt-ne O k e.0 l.0) ∙ look-low k t l.1

  -- the tails of two tables that agree, under one key
  tails : (d e : K × U) (s t : Table K U) → d.0 ≡ e.0 → Low O d.0 s → Low O e.0 t → ((j : K) → look O (d ∷ s) j ≡ look O (e ∷ t) j) → (j : K) → look O s j ≡ look O t j
  tails d e s t q a b f j = go (O.tri j d.0)
    where
      out : (j ≡ d.0 → ⊥) → look O s j ≡ look O t j
      out n = sym (look-there d s j n) ∙ (f j ∙ look-there e t j (λ (p : j ≡ e.0). n (p ∙ sym q)))

      go : Tri O.lt j d.0 → look O s j ≡ look O t j
      go (less h) = out (lt-ne O j d.0 h)
      go (same p) = ap (look O s) p ∙ (look-low d.0 s a ∙ sym (ap (look O t) (p ∙ q) ∙ look-low e.0 t b))
      go (more h) = out (λ (p : j ≡ d.0). lt-ne O d.0 j h (sym p))

  -- a key that one table has first is not below the first key of another that agrees
  not-below : (d e : K × U) (s t : Table K U) → Low O e.0 t → ((k : K) → look O (d ∷ s) k ≡ look O (e ∷ t) k) → O.lt d.0 e.0 → ⊥
  not-below d e s t b f h =
      none-some (sym (look-low d.0 (e ∷ t) (h, low-down d.0 e.0 t h b)) ∙ (sym (f d.0) ∙ look-here d s d.0 refl))

  pub ext : (s t : Table K U) → Sorted O s → Sorted O t → ((k : K) → look O s k ≡ look O t k) → s ≡ t
  ext [] [] a b f = refl
  ext [] (e ∷ t) a b f = absurd (none-some (f e.0 ∙ look-here e t e.0 refl))
  ext (d ∷ s) [] a b f = absurd (none-some (sym (f d.0) ∙ look-here d s d.0 refl))
  ext (d ∷ s) (e ∷ t) a b f = go (ext s t a.1 b.1) (O.tri d.0 e.0)
    where
      go : (((k : K) → look O s k ≡ look O t k) → s ≡ t) → Tri O.lt d.0 e.0 → ◌≡◌ {A = Table K U} (d ∷ s) (e ∷ t)
      go ih (less h) = absurd (not-below d e s t b.0 f h)
      go ih (same q) =
          let v : some d.1 ≡ some e.1 = sym (look-here d s d.0 refl) ∙ (f d.0 ∙ look-here e t d.0 q) in
          let w : d.1 ≡ e.1 = cc in
          let r : s ≡ t = ih (tails d e s t q a.0 b.0 f) in
          λ i. (q i, w i) ∷ r i
      go ih (more h) = absurd (not-below e d t s a.0 (λ k. sym (f k)) h)

  low-insert : (f : U → U → U) (k : K) (d : K × U) (t : Table K U) → O.lt k d.0 → Low O k t → Low O k (insert O f d t)
  low-insert f k d [] h l = (h, tt)
  low-insert f k d (e ∷ t) h l = go (low-insert f k d t h l.1) (O.tri d.0 e.0)
    where
      go : Low O k (insert O f d t) → (c : Tri O.lt d.0 e.0) → Low O k (put f d e t c (insert O f d t))
      go ih (less m) = (h, l)
      go ih (same m) = l
      go ih (more m) = (l.0, ih)

  pub sorted_insert : (f : U → U → U) (d : K × U) (t : Table K U) → Sorted O t → Sorted O (insert O f d t)
  sorted_insert f d [] s = (tt, tt)
  sorted_insert f d (e ∷ t) s = go (sorted_insert f d t s.1) (O.tri d.0 e.0)
    where
      go : Sorted O (insert O f d t) → (c : Tri O.lt d.0 e.0) → Sorted O (put f d e t c (insert O f d t))
      go ih (less m) = ((m, low-down d.0 e.0 t m s.0), s)
      go ih (same m) = s
      go ih (more m) = (low-insert f e.0 d t m s.0, ih)

  pub look-insert-here : (f : U → U → U) (d : K × U) (t : Table K U) (k : K) → k ≡ d.0 → Sorted O t → look O (insert O f d t) k ≡ join f (some d.1) (look O t k)
  look-insert-here f d [] k q s = look-here d [] k q
  look-insert-here f d (e ∷ t) k q s = go (look-insert-here f d t k q s.1) (O.tri d.0 e.0)
    where
      go : look O (insert O f d t) k ≡ join f (some d.1) (look O t k) → (c : Tri O.lt d.0 e.0)
          → look O (put f d e t c (insert O f d t)) k ≡ join f (some d.1) (look O (e ∷ t) k)
      go ih (less m) =
          look-here d (e ∷ t) k q ∙ sym (ap (join f (some d.1)) (ap (look O (e ∷ t)) q ∙ look-low d.0 (e ∷ t) (m, low-down d.0 e.0 t m s.0)))
      go ih (same m) = look-here (e.0, f d.1 e.1) t k (q ∙ m) ∙ sym (ap (join f (some d.1)) (look-here e t k (q ∙ m)))
      go ih (more m) =
          let n : (k ≡ e.0 → ⊥) = λ p. lt-ne O e.0 d.0 m (sym p ∙ q) in
          look-there e (insert O f d t) k n ∙ (ih ∙ ap (join f (some d.1)) (sym (look-there e t k n)))

  pub look-insert-there : (f : U → U → U) (d : K × U) (t : Table K U) (k : K) → (k ≡ d.0 → ⊥) → look O (insert O f d t) k ≡ look O t k
  look-insert-there f d [] k n = look-there d [] k n
  look-insert-there f d (e ∷ t) k n = go (look-insert-there f d t k n) (O.tri d.0 e.0) (O.tri k e.0)
    where
      go : look O (insert O f d t) k ≡ look O t k → (c : Tri O.lt d.0 e.0) → Tri O.lt k e.0 → look O (put f d e t c (insert O f d t)) k ≡ look O (e ∷ t) k
      go ih (less m) p = look-there d (e ∷ t) k n
      go ih (same m) p =
          let r : (k ≡ e.0 → ⊥) = λ p. n (p ∙ sym m) in
          look-there (e.0, f d.1 e.1) t k r ∙ sym (look-there e t k r)
      go ih (more m) (less p) = look-there e (insert O f d t) k (lt-ne O k e.0 p) ∙ (ih ∙ sym (look-there e t k (lt-ne O k e.0 p)))
      go ih (more m) (same p) = look-here e (insert O f d t) k p ∙ sym (look-here e t k p)
      go ih (more m) (more p) =
          let r : (k ≡ e.0 → ⊥) = λ q. lt-ne O e.0 k p (sym q) in
          look-there e (insert O f d t) k r ∙ (ih ∙ sym (look-there e t k r))

  pub length-insert : (f : U → U → U) (d : K × U) (t : Table K U) → length (insert O f d t) ≤ suc (length t)
  length-insert f d [] = omega arith
  length-insert f d (e ∷ t) = go (length-insert f d t) (O.tri d.0 e.0)
    where
      go : length (insert O f d t) ≤ suc (length t) → (c : Tri O.lt d.0 e.0) → length (put f d e t c (insert O f d t)) ≤ suc (suc (length t))
      go ih (less m) = omega arith
      go ih (same m) = omega arith
      go ih (more m) = omega arith

  pub sorted_merge : (f : U → U → U) (s t : Table K U) → Sorted O t → Sorted O (merge O f s t)
  sorted_merge f [] t b = b
  sorted_merge f (d ∷ s) t b = sorted_insert f d (merge O f s t) (sorted_merge f s t b)

  pub look-merge : (f : U → U → U) (s t : Table K U) → Sorted O s → Sorted O t → (k : K) → look O (merge O f s t) k ≡ join f (look O s k) (look O t k)
  look-merge f [] t a b k = refl
  look-merge f (d ∷ s) t a b k = go (look-merge f s t a.1 b k) (O.tri k d.0)
    where
      out : look O (merge O f s t) k ≡ join f (look O s k) (look O t k) → (k ≡ d.0 → ⊥) → look O (insert O f d (merge O f s t)) k ≡ join f (look O (d ∷ s) k) (look O t k)
      out ih n = look-insert-there f d (merge O f s t) k n ∙ (ih ∙ ap (λ (o : Option U). join f o (look O t k)) (sym (look-there d s k n)))

      go : look O (merge O f s t) k ≡ join f (look O s k) (look O t k) → Tri O.lt k d.0 → look O (insert O f d (merge O f s t)) k ≡ join f (look O (d ∷ s) k) (look O t k)
      go ih (less h) = out ih (lt-ne O k d.0 h)
      go ih (same q) =
          let z : look O s k ≡ none = ap (look O s) q ∙ look-low d.0 s a.0 in
          look-insert-here f d (merge O f s t) k q (sorted_merge f s t b)
          ∙ (ap (join f (some d.1)) (ih ∙ ap (λ (o : Option U). join f o (look O t k)) z)
          ∙ ap (λ (o : Option U). join f o (look O t k)) (sym (look-here d s k q)))
      go ih (more h) = out ih (λ (p : k ≡ d.0). lt-ne O d.0 k h (sym p))

  pub length-merge : (f : U → U → U) (s t : Table K U) → length (merge O f s t) ≤ length s + length t
  length-merge f [] t = omega arith
  length-merge f (d ∷ s) t = omega (arith, length-merge f s t, length-insert f d (merge O f s t))

  -- the merge O as a loop over both tables makes it: the lesser first key goes out first

  pub low-merge : (f : U → U → U) (k : K) (s t : Table K U) → Low O k s → Low O k t → Low O k (merge O f s t)
  low-merge f k [] t l m = m
  low-merge f k (d ∷ s) t l m = low-insert f k d (merge O f s t) l.0 (low-merge f k s t l.1 m)

  insert-low : (f : U → U → U) (d : K × U) (t : Table K U) → Low O d.0 t → insert O f d t ≡ d ∷ t
  insert-low f d [] l = refl
  insert-low f d (e ∷ t) l = go (O.tri d.0 e.0)
    where
      go : (c : Tri O.lt d.0 e.0) → put f d e t c (insert O f d t) ≡ d ∷ e ∷ t
      go (less h) = refl
      go (same q) = absurd (lt-ne O d.0 e.0 l.0 q)
      go (more h) = absurd (O.irr d.0 (O.trans d.0 e.0 d.0 l.0 h))

  insert-more : (f : U → U → U) (d e : K × U) (t : Table K U) → O.lt e.0 d.0 → insert O f d (e ∷ t) ≡ e ∷ insert O f d t
  insert-more f d e t l = go (O.tri d.0 e.0)
    where
      go : (c : Tri O.lt d.0 e.0) → put f d e t c (insert O f d t) ≡ e ∷ insert O f d t
      go (less h) = absurd (O.irr d.0 (O.trans d.0 e.0 d.0 h l))
      go (same q) = absurd (lt-ne O e.0 d.0 l (sym q))
      go (more h) = refl

  insert-same : (f : U → U → U) (d e : K × U) (t : Table K U) → d.0 ≡ e.0 → insert O f d (e ∷ t) ≡ (e.0, f d.1 e.1) ∷ t
  insert-same f d e t q = go (O.tri d.0 e.0)
    where
      go : (c : Tri O.lt d.0 e.0) → put f d e t c (insert O f d t) ≡ (e.0, f d.1 e.1) ∷ t
      go (less h) = absurd (lt-ne O d.0 e.0 h q)
      go (same p) = refl
      go (more h) = absurd (lt-ne O e.0 d.0 h (sym q))

  pub merge-right : (f : U → U → U) (s : Table K U) (e : K × U) (t : Table K U) → Low O e.0 s → merge O f s (e ∷ t) ≡ e ∷ merge O f s t
  merge-right f [] e t l = refl
  merge-right f (d ∷ s) e t l = ap (insert O f d) (merge-right f s e t l.1) ∙ insert-more f d e (merge O f s t) l.0

  pub merge-left : (f : U → U → U) (d : K × U) (s t : Table K U) → Low O d.0 s → Low O d.0 t → merge O f (d ∷ s) t ≡ d ∷ merge O f s t
  merge-left f d s t l m = insert-low f d (merge O f s t) (low-merge f d.0 s t l m)

  pub merge-both : (f : U → U → U) (d : K × U) (s : Table K U) (e : K × U) (t : Table K U) → Low O d.0 s → d.0 ≡ e.0
      → merge O f (d ∷ s) (e ∷ t) ≡ (e.0, f d.1 e.1) ∷ merge O f s t
  merge-both f d s e t l q = ap (insert O f d) (merge-right f s e t (rw q at l)) ∙ insert-same f d e (merge O f s t) q

  pub merge-nil : (f : U → U → U) (s : Table K U) → Sorted O s → merge O f s [] ≡ s
  merge-nil f [] h = refl
  merge-nil f (d ∷ s) h = ap (insert O f d) (merge-nil f s h.1) ∙ insert-low f d s h.0
