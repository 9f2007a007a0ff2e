-- Relocations beside their notes are the relocations of the rule beside what all labels say: so what is counted and written is the rule's. Assumes nothing.
use mathlib.Core.Path.{◌≡◌, refl, sym, ◌∙◌, ap}
use mathlib.Core.Bool.{Bool, false}
use mathlib.Core.List.{List, [], ◌∷◌}
use mathlib.Core.Option.{Option, none, some}
use Prim.Native.Nat.{ℕ, zero, suc, ◌+◌, ◌*◌, ◌<◌}
use native.Mathlib.Omega.{arith}
use borrow.Author.Tests.{ne_eqb}
use lib.Dec.{eqb}
use lib.ListN.{length, get_or}
use Rattle.rules.specs.Tables.{Table, Tri, less, same, more, Order, put, nat_order, name_order, look, Sorted, insert, merge, newer, map_t, hold, sieve}
use Rattle.rules.specs.Objects.{Lab, outer, defined, Name}
use Rattle.rules.specs.Buffers.{tab, reloc_row, view_relocs, row_of, reloc_cells}
use Rattle.rules.specs.Linking.{stay}
use Rattle.rules.proofs.Tables.{look-here, look-there, look-low, look-merge, none-some}
use Rattle.rules.proofs.Rows.{tab-ext, look_none, sorted-tab}
use Rattle.link_notes.specs.Notes.{open_mark, address_in, note_of, Noted, carried, carried_rows}
use Rattle.link_relocations.specs.Open.{kept_if, is_open, open_rows, both_rows, row_cells, Carried, Apart}

-- VALUES CHANGED

module _ {K U W : Type 0} (O : Order K) (g : U → W) where
  -- each value goes through g
  abbrev pub each : Table K U → Table K W
  each t = map_t (λ k v. g v) t

  insert-each : (d : K × U) (t : Table K U) → insert O newer (d.0, g d.1) (each t) ≡ each (insert O newer d t)
  insert-each d [] = refl
  insert-each d (e ∷ t) = go (O.tri d.0 e.0) (insert-each d t)
    where
      go : (c : Tri O.lt d.0 e.0) → insert O newer (d.0, g d.1) (each t) ≡ each (insert O newer d t)
          → put newer (d.0, g d.1) (e.0, g e.1) (each t) c (insert O newer (d.0, g d.1) (each t)) ≡ each (put newer d e t c (insert O newer d t))
      go (less h) ih = refl
      go (same h) ih = refl
      go (more h) ih = ap (λ (u : Table K W). (e.0, g e.1) ∷ u) ih

  merge-each : (s t : Table K U) → merge O newer (each s) (each t) ≡ each (merge O newer s t)
  merge-each [] t = refl
  merge-each (d ∷ s) t = ap (insert O newer (d.0, g d.1)) (merge-each s t) ∙ insert-each d (merge O newer s t)

tab-each : {K U W : Type 0} (g : U → W) (n : ℕ) (f : ℕ → K × U) → tab n (λ k. ((f k).0, g (f k).1)) ≡ map_t (λ (k : K) (v : U). g v) (tab n f)
tab-each g zero f = refl
tab-each {K} {U} {W} g (suc n) f = ap (λ (t : Table K W). ((f 0).0, g (f 0).1) ∷ t) (tab-each g n (λ k. f (suc k)))

-- A NAME STAYS OPEN EXACTLY WHERE THE RULE LETS IT STAY

-- the addresses of a label table are addresses
abbrev pub Addresses : Table Name Lab → Type 0
Addresses all = (n : Name) (a : ℕ) → look name_order all n ≡ some (defined a) → a < 65536

abbrev noted : Table Name Lab → Option Name → Option (ℕ × ℕ)
noted all none = none
noted all (some n) = some (note_of all n)

module _ (all : Table Name Lab) (low : Addresses all) where
  kept : (n : Name) → kept_if (is_open (note_of all n)) (note_of all n) ≡ noted all (stay n (look name_order all n))
  kept n = go (look name_order all n) refl
    where
      go : (v : Option Lab) → look name_order all n ≡ v → kept_if (eqb (address_in v) open_mark) (note_of all n) ≡ noted all (stay n v)
      go none q = refl
      go (some outer) q = refl
      go (some (defined a)) q =
          let e : eqb a open_mark ≡ false = ne_eqb a open_mark (λ (r : a ≡ open_mark). (let l = low n a q in omega arith)) in
          ap (λ (b : Bool). kept_if b (note_of all n)) e

  hold-noted : (k : ℕ) (o : Option Name) (t : Table ℕ Name) → hold k (noted all o) (each nat_order (note_of all) t) ≡ each nat_order (note_of all) (hold k o t)
  hold-noted k none t = refl
  hold-noted k (some n) t = refl

  open-each : (t : Table ℕ Name) → open_rows (each nat_order (note_of all) t) ≡ each nat_order (note_of all) (sieve (λ n. stay n (look name_order all n)) t)
  unfolding open_rows
  open-each [] = refl
  open-each (e ∷ t) =
      (λ i. hold e.0 (kept e.1 i) (open-each t i)) ∙ hold-noted e.0 (stay e.1 (look name_order all e.1)) (sieve (λ n. stay n (look name_order all n)) t)

cells-each : (all : Table Name Lab) (t : Table ℕ Name) → row_cells (each nat_order (note_of all) t) ≡ reloc_cells all t
cells-each all [] = refl
cells-each all (e ∷ t) = ap (λ (l : List ℕ). e.0 ∷ row_of all e.1 ∷ l) (cells-each all t)

length-each : (all : Table Name Lab) (t : Table ℕ Name) → length (each nat_order (note_of all) t) ≡ length t
length-each all [] = refl
length-each all (e ∷ t) = ap suc (length-each all t)

-- THE RELOCATIONS OF AN OBJECT

-- the label of each of n relocations has one of the m notes
pub record Rowed (n : ℕ) (rs : List ℕ) (m : ℕ) : Type 0 where
  pub label : (k : ℕ) → k < n → get_or rs (k * 2 + 1) 0 < m

carried-each : {all : Table Name Lab} {ls names : List ℕ} {m : ℕ} {ns : List ℕ} {n : ℕ} {rs : List ℕ} → Noted all ls names m ns → Rowed n rs m
    → carried_rows n rs ns ≡ each nat_order (note_of all) (view_relocs n rs ls names)
unfolding carried_rows view_relocs
carried-each {all} {ls} {names} {m} {ns} {n} {rs} d r =
    tab-ext n (carried rs ns) (λ k. ((reloc_row rs ls names k).0, note_of all (reloc_row rs ls names k).1))
    (λ k l. (let p = d.row (get_or rs (k * 2 + 1) 0) (r.label k l) in let q = d.address (get_or rs (k * 2 + 1) 0) (r.label k l) in λ i. (get_or rs (k * 2) 0, (p i, q i))))
    ∙ tab-each (note_of all) n (reloc_row rs ls names)

module _ {all : Table Name Lab} {ls names : List ℕ} {p : ℕ} {ns : List ℕ} {n : ℕ} {rs : List ℕ} {ls' names' : List ℕ} {p' : ℕ} {os : List ℕ} {m : ℕ} {qs : List ℕ}
    (low : Addresses all) (a : Noted all ls names p ns) (r : Rowed n rs p) (b : Noted all ls' names' p' os) (s : Rowed m qs p') where
  -- the relocations that stay, by the rule
  abbrev stayed : Table ℕ Name
  stayed = sieve (λ n. stay n (look name_order all n)) (merge nat_order newer (view_relocs n rs ls names) (view_relocs m qs ls' names'))

  open-both : open_rows (both_rows n rs ns m qs os) ≡ each nat_order (note_of all) stayed
  unfolding both_rows
  open-both =
      ap open_rows
      (rw (carried-each a r, carried-each b s) (merge-each nat_order (note_of all) (view_relocs n rs ls names) (view_relocs m qs ls' names')))
      ∙ open-each all low (merge nat_order newer (view_relocs n rs ls names) (view_relocs m qs ls' names'))

  pub open-cells : row_cells (open_rows (both_rows n rs ns m qs os)) ≡ reloc_cells all stayed
  open-cells = ap row_cells open-both ∙ cells-each all stayed

  pub open-count : length (open_rows (both_rows n rs ns m qs os)) ≡ length stayed
  open-count = ap length open-both ∙ length-each all stayed

-- TABLES THAT ARE APART ADD UP

abbrev Off : Table ℕ (ℕ × ℕ) → Table ℕ (ℕ × ℕ) → Type 0
Off [] t = Unit {0}
Off (e ∷ s) t = (look nat_order t e.0 ≡ none) × Off s t

hold-length : (k l : ℕ) (o : Option (ℕ × ℕ)) (s t : Table ℕ (ℕ × ℕ)) → length s ≡ length t → length (hold k o s) ≡ length (hold l o t)
hold-length k l none s t e = e
hold-length k l (some u) s t e = ap suc e

hold-swap : (k l : ℕ) (o q : Option (ℕ × ℕ)) (t : Table ℕ (ℕ × ℕ)) → length (hold k o (hold l q t)) ≡ length (hold l q (hold k o t))
hold-swap k l none none t = refl
hold-swap k l none (some v) t = refl
hold-swap k l (some u) none t = refl
hold-swap k l (some u) (some v) t = refl

insert-count : (d : ℕ × (ℕ × ℕ)) (t : Table ℕ (ℕ × ℕ)) → look nat_order t d.0 ≡ none → length (open_rows (insert nat_order newer d t)) ≡ length (open_rows (d ∷ t))
unfolding open_rows
insert-count d [] q = refl
insert-count d (e ∷ t) q = go (nat_order.tri d.0 e.0) refl (insert-count d t)
  where
    f : ℕ × ℕ → Option (ℕ × ℕ)
    f v = kept_if (is_open v) v

    go : (c : Tri ◌<◌ d.0 e.0) → nat_order.tri d.0 e.0 ≡ c → (look nat_order t d.0 ≡ none → length (sieve f (insert nat_order newer d t)) ≡ length (sieve f (d ∷ t)))
        → length (sieve f (put newer d e t c (insert nat_order newer d t))) ≡ length (sieve f (d ∷ e ∷ t))
    go (less h) r ih = refl
    go (same h) r ih = absurd (none-some (sym q ∙ look-here nat_order e t d.0 h))
    go (more h) r ih =
        hold-length e.0 e.0 (f e.1) _ _ (ih (sym (look-there nat_order e t d.0 (λ (p : d.0 ≡ e.0). (let z = h in omega arith))) ∙ q))
        ∙ hold-swap e.0 d.0 (f e.1) (f d.1) (sieve f t)

hold-count : (k : ℕ) (o : Option (ℕ × ℕ)) (s t u : Table ℕ (ℕ × ℕ)) → length s ≡ length t + length u → length (hold k o s) ≡ length (hold k o t) + length u
hold-count k none s t u e = e
hold-count k (some v) s t u e = omega arith

merge-count : (s t : Table ℕ (ℕ × ℕ)) → Sorted nat_order s → Sorted nat_order t → Off s t → length (open_rows (merge nat_order newer s t)) ≡ length (open_rows s) + length (open_rows t)
unfolding open_rows
merge-count [] t a b o = sym (omega arith)
merge-count (d ∷ s) t a b o =
    let z : look nat_order (merge nat_order newer s t) d.0 ≡ none =
    look-merge nat_order newer s t a.1 b d.0 ∙ rw (look-low nat_order d.0 s a.0) o.0 in
    insert-count d (merge nat_order newer s t) z
    ∙ hold-count d.0 (kept_if (is_open d.1) d.1) (open_rows (merge nat_order newer s t)) (open_rows s) (open_rows t) (merge-count s t a.1 b o.1)

off-tab : (n : ℕ) (f : ℕ → ℕ × (ℕ × ℕ)) (t : Table ℕ (ℕ × ℕ)) → ((k : ℕ) → k < n → look nat_order t (f k).0 ≡ none) → Off (tab n f) t
off-tab zero f t h = tt
off-tab (suc n) f t h = (h 0 (omega arith), off-tab n (λ k. f (suc k)) t (λ k l. h (suc k) (omega arith)))

-- as many stay of both as of the one and of the other
pub both-count : {n : ℕ} {rs ns : List ℕ} {m : ℕ} {qs os : List ℕ} → Carried n rs ns → Carried m qs os → Apart n rs m qs
    → length (open_rows (both_rows n rs ns m qs os)) ≡ length (open_rows (carried_rows n rs ns)) + length (open_rows (carried_rows m qs os))
unfolding both_rows carried_rows
both-count {n} {rs} {ns} {m} {qs} {os} a b p =
    merge-count (tab n (carried rs ns)) (tab m (carried qs os)) (sorted-tab nat_order n (carried rs ns) (record { next = a.up }))
    (sorted-tab nat_order m (carried qs os) (record { next = b.up }))
    (off-tab n (carried rs ns) (tab m (carried qs os)) (λ i l. look_none nat_order m (carried qs os) (get_or rs (i * 2) 0) (λ j k e. p.at i j l k e)))
