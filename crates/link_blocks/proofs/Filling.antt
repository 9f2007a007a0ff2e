-- What a loop that merges two tables of parts into a buffer keeps: the parts that are out lie at its front, and the rest of the merge is to come. Assumes nothing.
use mathlib.Core.Path.{◌≡◌, refl, sym, ◌∙◌, ap}
use mathlib.Core.Bool.{Bool, true, false, ◌&&◌, ◌||◌}
use mathlib.Core.List.{List, [], ◌∷◌, ◌++◌, append_assoc, append-nil}
use Prim.Native.Nat.{ℕ, ◌+◌, ◌≤◌, ◌<◌}
use native.Mathlib.Decide.{dec_lt}
use native.Mathlib.Omega.{arith}
use lib.ListN.{length, length-append}
use lib.Dec.{ltb, leb}
use lib.Seq.{paste}
use borrow.Author.Tests.{ltb-true, ltb-false, lt-ltb, le-ltb, lt-leb, le-leb}
use Rattle.rules.specs.Tables.{Table, nat_order, merge, newer}
use Rattle.rules.specs.Buffers.{tab, Up, head_row, zeros, lay}
use Rattle.rules.proofs.Bools.{never, and_left, and_right}
use Rattle.rules.proofs.Rows.{lay-nil, lay-more, length-lay}
use Rattle.rules.proofs.Merging.{left, left-start, left_over, left-first, left-second}
use Rattle.link_blocks.specs.Merged.{gather, first_next, Apart}
use Rattle.link_blocks.proofs.Shared.{starts_apart}

pub gather_append : (s t : Table ℕ (List ℕ)) → gather (s ++ t) ≡ gather s ++ gather t
gather_append [] t = refl
gather_append (e ∷ s) t = ap (λ (l : List ℕ). e.1 ++ l) (gather_append s t) ∙ sym (append_assoc e.1 (gather s) (gather t))

-- `at` cells of a buffer of len are in use, when i parts of the one table and j of the other are out
pub record Filling (na : ℕ) (f : ℕ → ℕ × List ℕ) (nb : ℕ) (g : ℕ → ℕ × List ℕ) (len i j at : ℕ) (buffer : List ℕ) : Type 0 where
  pub out : Table ℕ (List ℕ)
  pub whole : out ++ left nat_order newer na f nb g i j ≡ merge nat_order newer (tab na f) (tab nb g)
  pub used : length (gather out) ≡ at
  pub within : at ≤ len
  pub here : buffer ≡ lay (gather out) len

module _ {na : ℕ} {f : ℕ → ℕ × List ℕ} {nb : ℕ} {g : ℕ → ℕ × List ℕ} (u : Up nat_order na f) (v : Up nat_order nb g) where
  pub filling-none : (buffer : List ℕ) → buffer ≡ zeros (length buffer) → Filling na f nb g (length buffer) 0 0 0 buffer
  filling-none buffer e = record {
    out = [];
    whole = left-start nat_order newer u v;
    used = refl;
    within = omega arith;
    here = e ∙ sym (lay-nil (length buffer));
  }

  module _ {len i j at : ℕ} {buffer : List ℕ} (t : Filling na f nb g len i j at buffer) where
    pub filling-size : length buffer ≡ len
    filling-size = ap length t.here ∙ length-lay (gather t.out) len (omega (arith, t.used, t.within))

    -- one part more, of s cells
    grown : (i' j' s : ℕ) (e : ℕ × List ℕ) (next : List ℕ) → left nat_order newer na f nb g i j ≡ e ∷ left nat_order newer na f nb g i' j' → length e.1 ≡ s → at + s ≤ len
        → next ≡ paste buffer at e.1 s → Filling na f nb g len i' j' (at + s) next
    grown i' j' s e next q size room p =
        let one : gather (t.out ++ (e ∷ [])) ≡ gather t.out ++ e.1 = gather_append t.out (e ∷ []) ∙ ap (λ (l : List ℕ). gather t.out ++ l) (append-nil e.1) in
        let more : paste (lay (gather t.out) len) (length (gather t.out)) e.1 (length e.1) ≡ lay (gather t.out ++ e.1) len =
        lay-more (gather t.out) e.1 len (omega (arith, t.used)) in
        record {
          out = t.out ++ (e ∷ []);
          whole = append_assoc t.out (e ∷ []) (left nat_order newer na f nb g i' j') ∙ (ap (λ (r : Table ℕ (List ℕ)). t.out ++ r) (sym q) ∙ t.whole);
          used = ap length one ∙ (length-append (gather t.out) e.1 ∙ (λ x. t.used x + size x));
          within = room;
          here = p ∙ ((λ x. paste (t.here x) (sym t.used x) e.1 (sym size x)) ∙ (more ∙ ap (λ (l : List ℕ). lay l len) (sym one)));
        }

    pub filling-first : (s : ℕ) (next : List ℕ) → i < na → (j < nb → (f i).0 < (g j).0) → length (f i).1 ≡ s → at + s ≤ len → next ≡ paste buffer at (f i).1 s
        → Filling na f nb g len (i + 1) j (at + s) next
    filling-first s next l h = grown (i + 1) j s (f i) next (left-first nat_order newer u v i j l h)

    pub filling-second : (s : ℕ) (next : List ℕ) → j < nb → (i < na → (g j).0 < (f i).0) → length (g j).1 ≡ s → at + s ≤ len → next ≡ paste buffer at (g j).1 s
        → Filling na f nb g len i (j + 1) (at + s) next
    filling-second s next l h = grown i (j + 1) s (g j) next (left-second nat_order newer u v i j l h)

    pub filling-all : na ≤ i → nb ≤ j → buffer ≡ lay (gather (merge nat_order newer (tab na f) (tab nb g))) len
    filling-all p q =
        t.here
        ∙ ap (λ (s : Table ℕ (List ℕ)). lay (gather s) len)
        (sym (append-nil t.out) ∙ (ap (λ (r : Table ℕ (List ℕ)). t.out ++ r) (sym (left_over nat_order newer u v i j p q)) ∙ t.whole))

-- WHICH IS NEXT

or-second : (a b : Bool) → a ≡ false → (a || b) ≡ true → b ≡ true
or-second true b e p = never cc
or-second false b e p = p

or-none : (a b : Bool) → a ≡ true → (a || b) ≡ false → ⊥
or-none true b e p = never cc
or-none false b e p = never cc

and_none : (a b : Bool) → a ≡ true → (a && b) ≡ false → b ≡ false
and_none true b e p = p
and_none false b e p = never cc

or-last : (a b : Bool) → (a || b) ≡ false → b ≡ false
or-last true b e = never cc
or-last false b e = e

module _ (na : ℕ) (a : List ℕ) (nb : ℕ) (b : List ℕ) (i j : ℕ) where
  pub next_row : {r : Bool} → r ≡ true → r ≡ first_next na a nb b i j → i < na
  unfolding first_next
  next_row e p = ltb-true i na (and_left (ltb i na) (leb nb j || ltb (head_row a i).0 (head_row b j).0) (sym p ∙ e))

  pub next_low : {r : Bool} → r ≡ true → r ≡ first_next na a nb b i j → j < nb → (head_row a i).0 < (head_row b j).0
  unfolding first_next
  next_low e p l =
      ltb-true (head_row a i).0 (head_row b j).0
      (or-second (leb nb j) (ltb (head_row a i).0 (head_row b j).0) (lt-leb nb j l) (and_right (ltb i na) (leb nb j || ltb (head_row a i).0 (head_row b j).0) (sym p ∙ e)))

  pub other_row : {r : Bool} → r ≡ false → r ≡ first_next na a nb b i j → i + j < na + nb → i ≤ na → j < nb
  unfolding first_next
  other_row e p l h = elim (dec_lt j nb) [
    | yes y ↦ y
    | no y ↦ absurd (or-none (leb nb j) (ltb (head_row a i).0 (head_row b j).0) (le-leb nb j (omega arith))
        (and_none (ltb i na) (leb nb j || ltb (head_row a i).0 (head_row b j).0) (lt-ltb i na (omega arith)) (sym p ∙ e)))
  ]

  pub other-low : {r : Bool} → r ≡ false → r ≡ first_next na a nb b i j → Apart na a nb b → j < nb → i < na → (head_row b j).0 < (head_row a i).0
  unfolding first_next
  other-low e p t k h =
      let le : (head_row b j).0 ≤ (head_row a i).0 =
      ltb-false (head_row a i).0 (head_row b j).0
      (or-last (leb nb j) (ltb (head_row a i).0 (head_row b j).0) (and_none (ltb i na) (leb nb j || ltb (head_row a i).0 (head_row b j).0) (lt-ltb i na h) (sym p ∙ e))) in
      let ne = starts_apart na a nb b t.rows t.others t.apart i j h k in
      elim (dec_lt (head_row b j).0 (head_row a i).0) [ yes y ↦ y | no y ↦ absurd (ne (omega arith)) ]

  -- the answer of each way through `first_next`
  pub none-next : na ≤ i → false ≡ first_next na a nb b i j
  unfolding first_next
  none-next h = sym (ap (λ (c : Bool). c && (leb nb j || ltb (head_row a i).0 (head_row b j).0)) (le-ltb i na h))

  pub only_next : i < na → nb ≤ j → true ≡ first_next na a nb b i j
  unfolding first_next
  only_next h k = sym (λ x. lt-ltb i na h x && (le-leb nb j k x || ltb (head_row a i).0 (head_row b j).0))

  pub lower-next : (s s' : ℕ) → i < na → j < nb → s ≡ (head_row a i).0 → s' ≡ (head_row b j).0 → ltb s s' ≡ first_next na a nb b i j
  unfolding first_next
  lower-next s s' h k p q = (λ x. ltb (p x) (q x)) ∙ sym (λ x. lt-ltb i na h x && (lt-leb nb j k x || ltb (head_row a i).0 (head_row b j).0))
