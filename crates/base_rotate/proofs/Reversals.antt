-- Two neighbouring parts of a list exchanged by three reversals. Assumes nothing.
use Rattle.std.proofs.Common.{◌≡◌, ℕ, ◌+◌, ◌-◌, ◌≤◌, List, ◌++◌, length, take, drop, ap, sym, ◌∙◌, arith, append_assoc}
use mathlib.Core.List.{reverse, reverse-append, reverse-reverse}
use lib.ListN.{length-append, length-reverse, take-append-drop}
use Rattle.std.proofs.lemmas.List.{drop-take}
use lib.Seq.{slice, slice_empty, length-take-le, length-slice, take-take, take_at, drop_at, drop-drop}
use Rattle.base_rotate.specs.Turned.{turned}

module _ {A : Type 0} where
  -- the part from f to t, as the first elements behind f
  part : (b : List A) (f t : ℕ) → f ≤ t → take (t - f) (drop f b) ≡ slice f t b
  part b f t h = let e : f + (t - f) ≡ t = omega arith in sym (drop-take f (t - f) b) ∙ ap (λ (k : ℕ). drop f (take k b)) e

  -- b with what stands from lo to hi in reverse
  unfoldable pub reversed : ℕ → ℕ → List A → List A
  reversed lo hi b = take lo b ++ (reverse (slice lo hi b) ++ drop hi b)

  -- a part reversed and put back where it stood
  pub reversed_back : (b r : List A) (lo hi : ℕ) → lo ≤ hi → r ≡ reverse (take (hi - lo) (drop lo b)) → take lo b ++ (r ++ drop (hi - lo) (drop lo b)) ≡ reversed lo hi b
  unfolding reversed
  reversed_back b r lo hi h e =
      let on : lo + (hi - lo) ≡ hi = omega arith in
      let rest : drop (hi - lo) (drop lo b) ≡ drop hi b = drop-drop (hi - lo) lo b ∙ ap (λ (j : ℕ). drop j b) on in
      let is : r ≡ reverse (slice lo hi b) = e ∙ ap reverse (part b lo hi h) in
      λ v. take lo b ++ (is v ++ rest v)

  -- the part before k and the part from k to l are the part before l
  front : (b : List A) (k l : ℕ) → k ≤ l → take k b ++ slice k l b ≡ take l b
  front b k l h = ap (λ (p : List A). p ++ slice k l b) (sym (take-take k l b h)) ∙ take-append-drop k (take l b)

  -- a list in three parts
  three : (b : List A) (lo hi : ℕ) → lo ≤ hi → b ≡ take lo b ++ (slice lo hi b ++ drop hi b)
  three b lo hi h =
      sym (take-append-drop hi b) ∙ ap (λ (p : List A). p ++ drop hi b) (sym (front b lo hi h)) ∙ append_assoc (take lo b) (slice lo hi b) (drop hi b)

  -- and in four
  four : (b : List A) (lo mid hi : ℕ) → lo ≤ mid → mid ≤ hi → b ≡ take lo b ++ (slice lo mid b ++ (slice mid hi b ++ drop hi b))
  four b lo mid hi h k =
      three b mid hi k ∙ ap (λ (p : List A). p ++ (slice mid hi b ++ drop hi b)) (sym (front b lo mid h))
      ∙ append_assoc (take lo b) (slice lo mid b) (slice mid hi b ++ drop hi b)

  -- the second of three parts reversed
  reversed-part : (e q z : List A) (i j : ℕ) → length e ≡ i → length e + length q ≡ j → reversed i j (e ++ (q ++ z)) ≡ e ++ (reverse q ++ z)
  unfolding reversed
  reversed-part e q z i j h k =
      let w : e ++ (q ++ z) ≡ (e ++ q) ++ z = sym (append_assoc e q z) in
      let n : length (e ++ q) ≡ j = length-append e q ∙ k in
      let t : take j (e ++ (q ++ z)) ≡ e ++ q = ap (take j) w ∙ take_at (e ++ q) z j n in
      let s : slice i j (e ++ (q ++ z)) ≡ q = ap (drop i) t ∙ drop_at e q i h in
      let d : drop j (e ++ (q ++ z)) ≡ z = ap (drop j) w ∙ drop_at (e ++ q) z j n in
      λ v. take_at e (q ++ z) i h v ++ (reverse (s v) ++ d v)

  -- reversing each part, and then the whole, exchanges the parts
  reverse-parts : (p q : List A) → reverse (reverse p ++ reverse q) ≡ q ++ p
  reverse-parts p q = reverse-append (reverse p) (reverse q) ∙ (λ v. reverse-reverse q v ++ reverse-reverse p v)

  turn-parts : (e p q z : List A) (lo mid hi : ℕ) → length e ≡ lo → length e + length p ≡ mid → length e + length p + length q ≡ hi
      → reversed lo hi (reversed mid hi (reversed lo mid (e ++ (p ++ (q ++ z))))) ≡ e ++ (q ++ (p ++ z))
  turn-parts e p q z lo mid hi h k l =
      let a : length (reverse p) ≡ length p = length-reverse p in
      let b : length (reverse q) ≡ length q = length-reverse q in
      let c : length (e ++ reverse p) ≡ length e + length (reverse p) = length-append e (reverse p) in
      let d : length (reverse p ++ reverse q) ≡ length (reverse p) + length (reverse q) = length-append (reverse p) (reverse q) in
      let f : length (e ++ reverse p) ≡ mid = omega arith in
      let g : length (e ++ reverse p) + length q ≡ hi = omega arith in
      let m : length e + length (reverse p ++ reverse q) ≡ hi = omega arith in
      ap (λ (w : List A). reversed lo hi (reversed mid hi w)) (reversed-part e p (q ++ z) lo mid h k ∙ sym (append_assoc e (reverse p) (q ++ z)))
      ∙ ap (reversed lo hi) (reversed-part (e ++ reverse p) q z mid hi f g ∙ append_assoc e (reverse p) (reverse q ++ z) ∙ ap (λ (w : List A). e ++ w) (sym (append_assoc (reverse p) (reverse q) z)))
      ∙ reversed-part e (reverse p ++ reverse q) z lo hi h m
      ∙ ap (λ (w : List A). e ++ (w ++ z)) (reverse-parts p q)
      ∙ ap (λ (w : List A). e ++ w) (append_assoc q p z)

  -- c, d and r are what three reversals leave of b
  pub turns : (b c d r : List A) (lo mid hi : ℕ) → lo ≤ mid → mid ≤ hi → hi ≤ length b → c ≡ reversed lo mid b → d ≡ reversed mid hi c → r ≡ reversed lo hi d
      → r ≡ turned lo mid hi b
  unfolding turned
  turns b c d r lo mid hi h k l c-is d-is r-is =
      let n : length (take lo b) ≡ lo = length-take-le lo b (omega arith) in
      let o : length (slice lo mid b) ≡ mid - lo = length-slice lo mid b (omega arith) in
      let s : length (slice mid hi b) ≡ hi - mid = length-slice mid hi b l in
      let t : length (take lo b) + length (slice lo mid b) ≡ mid = omega arith in
      let u : length (take lo b) + length (slice lo mid b) + length (slice mid hi b) ≡ hi = omega arith in
      r-is ∙ ap (reversed lo hi) (d-is ∙ ap (reversed mid hi) (c-is ∙ ap (reversed lo mid) (four b lo mid hi h k)))
      ∙ turn-parts (take lo b) (slice lo mid b) (slice mid hi b) (drop hi b) lo mid hi n t u

  -- nothing moves where one of the two is empty
  pub turn-first-empty : (b : List A) (lo mid hi : ℕ) → lo ≡ mid → mid ≤ hi → b ≡ turned lo mid hi b
  unfolding turned
  turn-first-empty b lo mid hi e h =
      three b mid hi h ∙ ap (λ (w : List A). take mid b ++ (slice mid hi b ++ (w ++ drop hi b))) (sym (slice_empty mid b))
      ∙ ap (λ (k : ℕ). take k b ++ (slice mid hi b ++ (slice k mid b ++ drop hi b))) (sym e)

  pub turn-second-empty : (b : List A) (lo mid hi : ℕ) → mid ≡ hi → lo ≤ mid → b ≡ turned lo mid hi b
  unfolding turned
  turn-second-empty b lo mid hi e h =
      three b lo mid h ∙ ap (λ (w : List A). take lo b ++ (w ++ (slice lo mid b ++ drop mid b))) (sym (slice_empty mid b))
      ∙ ap (λ (k : ℕ). take lo b ++ (slice mid k b ++ (slice lo mid b ++ drop k b))) e
