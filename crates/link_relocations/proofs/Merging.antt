-- What the loop that merges open relocations keeps. Assumes nothing.
use borrow.Author.Tests.{ltb-true, ltb-false}
use lib.Dec.{ltb}
use mathlib.Core.Path.{◌≡◌, refl, sym, ◌∙◌, ap}
use mathlib.Core.Bool.{Bool, true, false}
use mathlib.Core.List.{List, [], ◌∷◌, ◌++◌, append_assoc, append-nil}
use Prim.Native.Nat.{ℕ, suc, ◌+◌, ◌*◌, ◌≤◌, ◌<◌}
use native.Mathlib.Omega.{arith}
use native.Mathlib.Decide.{dec_lt}
use lib.ListN.{length, get_or, length-append, length-set, length-replicate}
use Rattle.rules.specs.Tables.{Table, Tri, less, same, more, nat-tri, nat_order, newer}
use Rattle.rules.specs.Buffers.{Up, zeros, lay}
use Rattle.rules.proofs.Rows.{lay-nil}
use Rattle.rules.proofs.Merging.{left, left-start, left_over, left-first, left-second}
use Rattle.object.specs.Decides.{Decides, decides_yes, decides_no}
use Rattle.object_layout_labels.specs.Laying.{Blank}
use Rattle.base_buffers.specs.Rows.{with_row}
use Rattle.base_buffers.proofs.Pasted.{row_laid}
use Rattle.link_notes.specs.Notes.{carried, carried_rows}
use Rattle.link_relocations.specs.Open.{is_open, open_rows, both_rows, row_cells, put_open, row_after, Carried, Both, Placed, Next}
use Rattle.link_relocations.proofs.Sieved.{open_none, open_stays, open-goes, put-stays, put-goes, row_stays, row_goes}

-- WHICH IS NEXT

module _ {n : ℕ} {rs : List ℕ} {i m : ℕ} {qs : List ℕ} {j : ℕ} where
  pub next-by : i < n → j < m → Decides (Next n rs i m qs j) (ltb (get_or rs (i * 2) 0) (get_or qs (j * 2) 0))
  next-by h l = record {
    yes = λ e. record { here = h; first = λ q. ltb-true (get_or rs (i * 2) 0) (get_or qs (j * 2) 0) e };
    no = λ e v. (let u = v.first l in let w = ltb-false (get_or rs (i * 2) 0) (get_or qs (j * 2) 0) e in omega arith);
  }

  pub next_last : i < n → m ≤ j → Decides (Next n rs i m qs j) true
  next_last h l = decides_yes (record { here = h; first = λ q. absurd (omega arith) })

  pub next-none : n ≤ i → Decides (Next n rs i m qs j) false
  next-none h = decides_no (λ v. (let u = v.here in omega arith))

-- CELLS

length-cells : (t : Table ℕ (ℕ × ℕ)) → length (row_cells t) ≡ length t * 2
length-cells [] = refl
length-cells (e ∷ t) = let u = length-cells t in omega arith

cells-append : (s t : Table ℕ (ℕ × ℕ)) → row_cells (s ++ t) ≡ row_cells s ++ row_cells t
cells-append [] t = refl
cells-append (e ∷ s) t = ap (λ (l : List ℕ). e.0 ∷ e.1.0 ∷ l) (cells-append s t)

-- a row more behind those that are laid
row_more : (t : Table ℕ (ℕ × ℕ)) (e : ℕ × (ℕ × ℕ)) (len k : ℕ) → length t ≡ k → k * 2 + 1 < len → with_row (lay (row_cells t) len) k e.0 e.1.0 ≡ lay (row_cells (t ++ (e ∷ []))) len
row_more t e len k q h =
    row_laid (row_cells t) len k e.0 e.1.0 (length-cells t ∙ ap (λ (n : ℕ). n * 2) q) h ∙ ap (λ (l : List ℕ). lay l len) (sym (cells-append t (e ∷ [])))

-- THE LOOP

carried-up : {n : ℕ} {rs ns : List ℕ} → Carried n rs ns → Up nat_order n (carried rs ns)
carried-up c = record { next = c.up }

-- i and j rows of the two are through, k of them stay
pub record Merging (n : ℕ) (rs ns : List ℕ) (m : ℕ) (qs os out₀ out : List ℕ) (i j k : ℕ) : Type 0 where
  pub given : Both n rs ns m qs os out₀
  pub first-in : i ≤ n
  pub second-in : j ≤ m
  pub size : length out ≡ length out₀
  pub done : Table ℕ (ℕ × ℕ)
  pub rows : length done ≡ k
  pub low : k ≤ i + j
  pub whole : done ++ open_rows (left nat_order newer n (carried rs ns) m (carried qs os) i j) ≡ open_rows (both_rows n rs ns m qs os)
  pub here : out ≡ lay (row_cells done) (length out₀)

pub merging-none : {n : ℕ} {rs ns : List ℕ} {m : ℕ} {qs os out : List ℕ} → Both n rs ns m qs os out → Blank out → Merging n rs ns m qs os out out 0 0 0
unfolding both_rows carried_rows
merging-none {n} {rs} {ns} {m} {qs} {os} {out} b z =
    record {
      given = b;
      first-in = omega arith;
      second-in = omega arith;
      size = refl;
      done = [];
      rows = refl;
      low = omega arith;
      whole = ap open_rows (left-start nat_order newer (carried-up b.first) (carried-up b.second));
      here = z.zero ∙ sym (lay-nil (length out));
    }

module _ {n : ℕ} {rs ns : List ℕ} {m : ℕ} {qs os out₀ out : List ℕ} {i j k : ℕ} (M : Merging n rs ns m qs os out₀ out i j k) where
  abbrev b : Both n rs ns m qs os out₀
  b = M.given

  abbrev rest : ℕ → ℕ → Table ℕ (ℕ × ℕ)
  rest p q = left nat_order newer n (carried rs ns) m (carried qs os) p q

  -- a relocation that stays has room
  room_for : (e : ℕ × (ℕ × ℕ)) (t : Table ℕ (ℕ × ℕ)) → rest i j ≡ e ∷ t → is_open e.1 ≡ true → k * 2 + 1 < length out
  room_for e t q o =
      let l = ap length M.whole in
      let x = length-append M.done (open_rows (rest i j)) in
      let y : length (open_rows (rest i j)) ≡ suc (length (open_rows t)) = ap length (ap open_rows q ∙ open_stays e t o) in
      omega (arith, l, x, y, M.rows, M.size, b.room)

  -- it is written, or passed over
  stays : (e : ℕ × (ℕ × ℕ)) (t : Table ℕ (ℕ × ℕ)) (p q : ℕ) → p ≤ n → q ≤ m → p + q ≡ i + j + 1 → t ≡ rest p q → rest i j ≡ e ∷ t → is_open e.1 ≡ true
      → Merging n rs ns m qs os out₀ (put_open e k out) p q (row_after e k)
  stays e t p q hp hq u r s o =
      let c : open_rows (rest i j) ≡ e ∷ open_rows (rest p q) = ap open_rows s ∙ (open_stays e t o ∙ ap (λ (u : Table ℕ (ℕ × ℕ)). e ∷ open_rows u) r) in
      let f : put_open e k out ≡ lay (row_cells (M.done ++ (e ∷ []))) (length out₀) =
      put-stays e k out o
      ∙ (ap (λ (l : List ℕ). with_row l k e.0 e.1.0) M.here
      ∙ row_more M.done e (length out₀) k M.rows (omega (arith, room_for e t s o, M.size))) in
      record {
        given = b;
        first-in = hp;
        second-in = hq;
        size = ap length (put-stays e k out o) ∙ simp length-set M.size;
        done = M.done ++ (e ∷ []);
        rows = length-append M.done (e ∷ []) ∙ (let z : length M.done + 1 ≡ k + 1 = omega (arith, M.rows) in z) ∙ sym (row_stays e k o);
        low = omega (arith, M.low, row_stays e k o);
        whole = append_assoc M.done (e ∷ []) (open_rows (rest p q)) ∙ (ap (λ (u : Table ℕ (ℕ × ℕ)). M.done ++ u) (sym c) ∙ M.whole);
        here = f;
      }

  goes : (e : ℕ × (ℕ × ℕ)) (t : Table ℕ (ℕ × ℕ)) (p q : ℕ) → p ≤ n → q ≤ m → p + q ≡ i + j + 1 → t ≡ rest p q → rest i j ≡ e ∷ t → is_open e.1 ≡ false
      → Merging n rs ns m qs os out₀ (put_open e k out) p q (row_after e k)
  goes e t p q hp hq u r s o =
      let c : open_rows (rest i j) ≡ open_rows (rest p q) = ap open_rows s ∙ (open-goes e t o ∙ ap open_rows r) in
      record {
        given = b;
        first-in = hp;
        second-in = hq;
        size = ap length (put-goes e k out o) ∙ M.size;
        done = M.done;
        rows = M.rows ∙ sym (row_goes e k o);
        low = omega (arith, M.low, row_goes e k o);
        whole = ap (λ (u : Table ℕ (ℕ × ℕ)). M.done ++ u) (sym c) ∙ M.whole;
        here = put-goes e k out o ∙ M.here;
      }

  either : (e : ℕ × (ℕ × ℕ)) (p q : ℕ) → p ≤ n → q ≤ m → p + q ≡ i + j + 1 → rest i j ≡ e ∷ rest p q → Merging n rs ns m qs os out₀ (put_open e k out) p q (row_after e k)
  either e p q hp hq u s = go (is_open e.1) refl
    where
      go : (o : Bool) → is_open e.1 ≡ o → Merging n rs ns m qs os out₀ (put_open e k out) p q (row_after e k)
      go true o = stays e (rest p q) p q hp hq u refl s o
      go false o = goes e (rest p q) p q hp hq u refl s o

  -- the next row is the first table's
  first_out : Next n rs i m qs j → rest i j ≡ carried rs ns i ∷ rest (i + 1) j
  first_out v = left-first nat_order newer (carried-up b.first) (carried-up b.second) i j v.here v.first

  module _ {t : Bool} (d : Decides (Next n rs i m qs j) t) where
    pub first-placed : t ≡ true → Placed rs ns i out k
    first-placed e =
        record {
          row = omega (arith, (d.yes e).here, b.first.room);
          noted = b.first.noted i (d.yes e).here;
          room = room_for (carried rs ns i) (rest (i + 1) j) (first_out (d.yes e));
          few = omega (arith, M.low, M.first-in, M.second-in, b.few);
        }

    pub merging-first : {out' : List ℕ} {k' : ℕ} → t ≡ true → k' ≡ row_after (carried rs ns i) k → out' ≡ put_open (carried rs ns i) k out
        → Merging n rs ns m qs os out₀ out' (i + 1) j k'
    merging-first e p q =
        rw (p, q) (either (carried rs ns i) (i + 1) j (omega (arith, (d.yes e).here)) M.second-in (omega arith) (first_out (d.yes e)))

    module _ (l : i + j < n + m) (e : t ≡ false) where
      second-here : j < m
      second-here = go (dec_lt j m)
        where
          go : Dec (j < m) → j < m
          go (yes h) = h
          go (no h) = absurd (d.no e (record { here = omega (arith, M.first-in, M.second-in); first = λ q. absurd (h q) }))

      second-low : i < n → get_or qs (j * 2) 0 < get_or rs (i * 2) 0
      second-low h = go (nat-tri (get_or qs (j * 2) 0) (get_or rs (i * 2) 0))
        where
          go : Tri ◌<◌ (get_or qs (j * 2) 0) (get_or rs (i * 2) 0) → get_or qs (j * 2) 0 < get_or rs (i * 2) 0
          go (less p) = p
          go (same p) = absurd (b.apart.at i j h second-here (sym p))
          go (more p) = absurd (d.no e (record { here = h; first = λ q. p }))

      second-out : rest i j ≡ carried qs os j ∷ rest i (j + 1)
      second-out = left-second nat_order newer (carried-up b.first) (carried-up b.second) i j second-here second-low

      pub second-placed : Placed qs os j out k
      second-placed =
          record { row = omega (arith, second-here, b.second.room); noted = b.second.noted j second-here; room = room_for (carried qs os j) (rest i (j + 1)) second-out; few = omega (arith, M.low, M.first-in, M.second-in, b.few) }

      pub merging-second : {out' : List ℕ} {k' : ℕ} → k' ≡ row_after (carried qs os j) k → out' ≡ put_open (carried qs os j) k out → Merging n rs ns m qs os out₀ out' i (j + 1) k'
      merging-second p q = rw (p, q) (either (carried qs os j) i (j + 1) M.first-in (omega (arith, second-here)) (omega arith) second-out)

  pub merging-all : n + m ≤ i + j → out ≡ lay (row_cells (open_rows (both_rows n rs ns m qs os))) (length out₀)
  merging-all l =
      let z : open_rows (rest i j) ≡ [] = ap open_rows (left_over nat_order newer (carried-up b.first) (carried-up b.second) i j (omega (arith, M.second-in)) (omega (arith, M.first-in))) ∙ open_none in
      let w : M.done ≡ open_rows (both_rows n rs ns m qs os) = sym (append-nil M.done) ∙ (ap (λ (u : Table ℕ (ℕ × ℕ)). M.done ++ u) (sym z) ∙ M.whole) in
      M.here ∙ ap (λ (u : Table ℕ (ℕ × ℕ)). lay (row_cells u) (length out₀)) w

-- AFTER THE CLEARING

pub both-after : {n : ℕ} {rs ns : List ℕ} {m : ℕ} {qs os out z : List ℕ} → Both n rs ns m qs os out → z ≡ zeros (length out) → Both n rs ns m qs os z
both-after {out = out} b e =
    record { first = b.first; second = b.second; apart = b.apart; few = b.few; room = omega (arith, b.room, ap length e, length-replicate {A = ℕ} (length out) 0) }
