-- What the loop that lays the labels of two objects keeps, and each way through its body. Assumes nothing.
use mathlib.Core.Path.{◌≡◌, refl, sym, ◌∙◌, ap}
use mathlib.Core.Option.{some}
use mathlib.Core.List.{List, [], ◌∷◌, ◌++◌}
use Prim.Native.Nat.{ℕ, ◌+◌, ◌-◌, ◌*◌, ◌≤◌, ◌<◌}
use native.Mathlib.Omega.{arith}
use native.Mathlib.Numerals.{add-one}
use lib.ListN.{length, take, get_or}
use lib.Seq.{take-suc, take_all, length-paste}
use borrow.Author.Tests.{ne_eqb}
use Rattle.rules.specs.Base.{when◌then◌else◌}
use Rattle.rules.specs.Tables.{Table, name_order, look}
use Rattle.rules.specs.Objects.{Lab, outer, defined, address_of, Name}
use Rattle.rules.specs.Buffers.{zeros, lay, flag_of, name_row, lab_row, name_bytes, label_cells, LabelsOk}
use Rattle.rules.specs.Linking.{join_lab}
use Rattle.rules.proofs.Rows.{lay-nil}
use Rattle.rules.proofs.Laid.{row-of}
use Rattle.rules.proofs.Fits.{good_length}
use Rattle.object_layout_labels.specs.Laying.{Blank, RowRoom, PutLabel, LabelRoom, LaidLabels}
use Rattle.object_layout_labels.proofs.Rows.{Standing, standing-more}
use Rattle.object_layout_labels.proofs.Loop.{room_after}
use Rattle.link_notes.specs.Notes.{address_in, note_row}
use Rattle.link_labels.specs.Matching.{both_labels, Sided}
use Rattle.link_labels.specs.Laying.{due, side_of, noted_lab, NotedRoom, LayReady}
use Rattle.link_labels.specs.declared.Side.{Side}
use Rattle.link_labels.specs.declared.Side.TheVariants.{First, Second, Both, Over}
use Rattle.link_labels.proofs.Joining.{LowLab, row-in, row_low}
use Rattle.link_labels.proofs.Siding.{less-first, less-second, less_both}
use Rattle.link_labels.proofs.Rests.{Here, Rest, rest-start, first-here, first_rest, second-here, second-rest, both-here, both_rest, none_rest}
use Rattle.link_labels.proofs.Due.{due-sided}

-- A ROW

-- the note of a label says the label
noted_back : (v : Lab) → LowLab v → noted_lab (address_in (some v)) ≡ v
unfolding noted_lab when◌then◌else◌
noted_back outer l = refl
noted_back (defined a) l = rw (ne_eqb a 65536 (λ e. (omega arith)))

-- a row as its note says, as the code writes it
pub noted-room : {rs bs xs ls ns : List ℕ} {i k at : ℕ} {y : Name} → y ≡ name_row rs bs i → NotedRoom rs bs xs i ls ns k at → RowRoom ls ns k at y
noted-room e r = rw e r.room

module _ (rs bs xs : List ℕ) (i : ℕ) {ls ns ls' ns' : List ℕ} {k at a r : ℕ} {y : Name} (e : y ≡ name_row rs bs i) (d : a ≡ (note_row xs i).1) where
  pub put-open : a ≡ 65536 → PutLabel ls ns ls' ns' k at 0 1 y r → PutLabel ls ns ls' ns' k at (address_of (noted_lab (get_or xs (i * 2 + 1) 0))) (flag_of (noted_lab (get_or xs (i * 2 + 1) 0))) (name_row rs bs i) r
  unfolding noted_lab when◌then◌else◌
  put-open z p = rw (← d, z) (rw e at p)

  pub put-defined : (a ≡ 65536 → ⊥) → PutLabel ls ns ls' ns' k at a 0 y r → PutLabel ls ns ls' ns' k at (address_of (noted_lab (get_or xs (i * 2 + 1) 0))) (flag_of (noted_lab (get_or xs (i * 2 + 1) 0))) (name_row rs bs i) r
  unfolding noted_lab when◌then◌else◌
  put-defined z p = rw (← d, ne_eqb a 65536 z) (rw e at p)

join-low : (u v : Lab) → LowLab u → LowLab v → LowLab (join_lab u v)
join-low outer v l m = m
join-low (defined a) v l m = l

take-here : {t : Table Name Lab} {k : ℕ} {e : Name × Lab} → Here t k e → take (k + 1) t ≡ take k t ++ (e ∷ [])
take-here {t} {k} {e} h =
    let r = row-of t e.0 e.1 ([], outer) h.found in
    let g : get_or t k ([], outer) ≡ e = ap (λ (x : ℕ). get_or t x ([], outer)) (sym h.row) ∙ r.1 in
    rw (add-one, take-suc t k ([], outer) h.within, g) refl

-- the table up to row k stands in the buffers, and a label that is put behind it makes it longer by row k
pub record Laid (t : Table Name Lab) (ls₀ ns₀ ls ns : List ℕ) (k at : ℕ) : Type 0 where
  pub rows : length ls ≡ length ls₀
  pub names : length ns ≡ length ns₀
  pub small : at ≤ k * 64
  pub standing : Standing (take k t) ls₀ ns₀ ls ns k at

laid_none : {t : Table Name Lab} {ls ns : List ℕ} → Blank ls → Blank ns → Laid t ls ns ls ns 0 0
laid_none {ls = ls} {ns = ns} p q = record {
  rows = refl;
  names = refl;
  small = omega arith;
  standing = record { count = refl; end = refl; rows = p.zero ∙ sym (lay-nil (length ls)); names = q.zero ∙ sym (lay-nil (length ns)) };
}

laid-room : {t : Table Name Lab} {ls₀ ns₀ ls ns : List ℕ} {k at : ℕ} {x : Name} → Laid t ls₀ ns₀ ls ns k at → LabelRoom (length t) ls₀ ns₀ → length t ≤ 1024 → k < length t → length x ≤ 64 → RowRoom ls ns k at x
laid-room c r f l s = record { row = omega (arith, r.rows, c.rows); place = omega (arith, r.names, c.names, c.small); small = omega (arith, c.small) }

laid_more : {t : Table Name Lab} {ls₀ ns₀ ls ns ls' ns' : List ℕ} {k at x r : ℕ} {e : Name × Lab} (y : Name) → Laid t ls₀ ns₀ ls ns k at → LabelRoom (length t) ls₀ ns₀ → Here t k e → y ≡ e.0 → x ≡ address_in (look name_order t y) → LowLab e.1 → length y ≤ 64
    → PutLabel ls ns ls' ns' k at (address_of (noted_lab x)) (flag_of (noted_lab x)) y r → Laid t ls₀ ns₀ ls' ns' (k + 1) r
laid_more {t} {ls₀} {ns₀} {ls} {ns} {ls'} {ns'} {k} {at} {x} {r} {e} y c room h q d low s p =
    let v : noted_lab x ≡ e.1 = ap noted_lab (d ∙ ap address_in (ap (look name_order t) q ∙ h.found)) ∙ noted_back e.1 low in
    let p' : PutLabel ls ns ls' ns' k at (address_of e.1) (flag_of e.1) e.0 r = rw (v, q) at p in
    let z : length e.0 ≤ 64 = rw q at s in
    let wide : k * 4 + 4 ≤ length ls₀ = omega (arith, room.rows, h.within) in
    let long : at + length e.0 ≤ length ns₀ = omega (arith, room.names, h.within, c.small) in
    record {
      rows = ap length p'.row ∙ (length-paste ls (k * 4) (address_of e.1 ∷ flag_of e.1 ∷ at ∷ length e.0 ∷ []) 4 (omega (arith, wide, c.rows)) (omega arith) ∙ c.rows);
      names = ap length p'.bytes ∙ (length-paste ns at e.0 (length e.0) (omega (arith, long, c.names)) (omega arith) ∙ c.names);
      small = omega (arith, c.small, p'.next);
      standing = rw (take-here h) (standing-more (take k t) ls₀ ns₀ ls ns ls' ns' k at r e c.standing p' wide long);
    }

laid-all : {t : Table Name Lab} {ls₀ ns₀ ls ns : List ℕ} {k at : ℕ} → Laid t ls₀ ns₀ ls ns k at → k ≡ length t → LaidLabels t ls₀ ns₀ ls ns
laid-all {t} {ls₀} {ns₀} {k = k} c e =
    let f : take k t ≡ t = take_all k t (omega arith) in
    record {
      rows = c.standing.rows ∙ ap (λ (u : Table Name Lab). lay (label_cells 0 u) (length ls₀)) f;
      names = c.standing.names ∙ ap (λ (u : Table Name Lab). lay (name_bytes u) (length ns₀)) f;
    }

-- a valid table's names are short
short-name : {n : ℕ} {ls ns : List ℕ} → LabelsOk n ls ns → (k : ℕ) → k < n → length (name_row ls ns k) ≤ 64
short-name {ls = ls} {ns = ns} v k l = good_length (name_row ls ns k) (v.rows k l).name

-- THE LOOP: k rows of the result are out, of which i are of the first object and j of the second

pub record Laying (m : ℕ) (al an : List ℕ) (n : ℕ) (bl bn ls₀ ns₀ ls ns : List ℕ) (i j k at : ℕ) : Type 0 where
  pub rest : Rest m al an n bl bn i j k
  pub laid : Laid (both_labels m al an n bl bn) ls₀ ns₀ ls ns k at

pub lay-none : {m : ℕ} {al an xs : List ℕ} {n : ℕ} {bl bn ys ls ns : List ℕ} → LayReady m al an xs n bl bn ys ls ns → Blank ls → Blank ns → Laying m al an n bl bn ls ns ls ns 0 0 0 0
lay-none t p q = record { rest = rest-start t.first t.second; laid = laid_none p q }

module _ {m : ℕ} {al an xs : List ℕ} {n : ℕ} {bl bn ys ls₀ ns₀ ls ns : List ℕ} {i j k at : ℕ} {r : Side}
    (t : LayReady m al an xs n bl bn ys ls₀ ns₀) (c : Laying m al an n bl bn ls₀ ns₀ ls ns i j k at) (d : r ≡ side_of (due m xs i k) (due n ys j k)) where
  sided : Sided m al an n bl bn i j r
  sided = due-sided t.first t.second c.rest t.first_notes t.second_notes d

  -- the row is the first object's
  module _ (q : r ≡ First) where
    pub first-less : m - (i + 1) + (n - j) < m - i + (n - j)
    first-less = less-first sided q

    pub first-room : NotedRoom al an xs i ls ns k at
    first-room =
        let f = sided.first q in
        let h = first-here t.first t.second c.rest f in
        record { noted = omega (arith, f.within, t.first_notes.room); room = laid-room c.laid t.room t.few h.within (short-name t.first i f.within) }

    pub lay-first : {ls' ns' : List ℕ} {p : ℕ} → PutLabel ls ns ls' ns' k at (address_of (noted_lab (get_or xs (i * 2 + 1) 0))) (flag_of (noted_lab (get_or xs (i * 2 + 1) 0))) (name_row al an i) p
        → Laying m al an n bl bn ls₀ ns₀ ls' ns' (i + 1) j (k + 1) p
    lay-first e =
        let f = sided.first q in
        let h = first-here t.first t.second c.rest f in
        record {
          rest = first_rest t.first t.second c.rest f;
          laid = laid_more (name_row al an i) c.laid t.room h refl (t.first_notes.address i f.within) (row_low (row-in t.first f.within)) (short-name t.first i f.within) e;
        }

  -- the second's
  module _ (q : r ≡ Second) where
    pub second-less : m - i + (n - (j + 1)) < m - i + (n - j)
    second-less = less-second sided q

    pub second-room : NotedRoom bl bn ys j ls ns k at
    second-room =
        let f = sided.second q in
        let h = second-here t.first t.second c.rest f in
        record { noted = omega (arith, f.within, t.second_notes.room); room = laid-room c.laid t.room t.few h.within (short-name t.second j f.within) }

    pub lay-second : {ls' ns' : List ℕ} {p : ℕ} → PutLabel ls ns ls' ns' k at (address_of (noted_lab (get_or ys (j * 2 + 1) 0))) (flag_of (noted_lab (get_or ys (j * 2 + 1) 0))) (name_row bl bn j) p
        → Laying m al an n bl bn ls₀ ns₀ ls' ns' i (j + 1) (k + 1) p
    lay-second e =
        let f = sided.second q in
        let h = second-here t.first t.second c.rest f in
        record {
          rest = second-rest t.first t.second c.rest f;
          laid = laid_more (name_row bl bn j) c.laid t.room h refl (t.second_notes.address j f.within) (row_low (row-in t.second f.within)) (short-name t.second j f.within) e;
        }

  -- both have it: the first's name, which is the second's, with the joined label
  module _ (q : r ≡ Both) where
    pub both-less : m - (i + 1) + (n - (j + 1)) < m - i + (n - j)
    both-less = less_both sided q

    pub both-room : NotedRoom al an xs i ls ns k at
    both-room =
        let f = sided.both q in
        let h = both-here t.first t.second c.rest f in
        record { noted = omega (arith, f.first, t.first_notes.room); room = laid-room c.laid t.room t.few h.within (short-name t.first i f.first) }

    pub lay-both : {ls' ns' : List ℕ} {p : ℕ} → PutLabel ls ns ls' ns' k at (address_of (noted_lab (get_or xs (i * 2 + 1) 0))) (flag_of (noted_lab (get_or xs (i * 2 + 1) 0))) (name_row al an i) p
        → Laying m al an n bl bn ls₀ ns₀ ls' ns' (i + 1) (j + 1) (k + 1) p
    lay-both e =
        let f = sided.both q in
        let h = both-here t.first t.second c.rest f in
        let low = join-low (lab_row al i) (lab_row bl j) (row_low (row-in t.first f.first)) (row_low (row-in t.second f.second)) in
        record {
          rest = both_rest t.first t.second c.rest f;
          laid = laid_more (name_row al an i) c.laid t.room h f.same (t.first_notes.address i f.first) low (short-name t.first i f.first) e;
        }

  -- nothing is left
  pub lay-all : r ≡ Over → LaidLabels (both_labels m al an n bl bn) ls₀ ns₀ ls ns
  lay-all q = laid-all c.laid (none_rest t.first t.second c.rest (sided.over q))

-- AFTER THE CLEARING
pub ready-after : {m : ℕ} {al an xs : List ℕ} {n : ℕ} {bl bn ys ls ns ls₀ ns₀ : List ℕ} → LayReady m al an xs n bl bn ys ls ns → ls₀ ≡ zeros (length ls) → ns₀ ≡ zeros (length ns) → LayReady m al an xs n bl bn ys ls₀ ns₀
ready-after t p q = record {
  first = t.first;
  second = t.second;
  first_notes = t.first_notes;
  second_notes = t.second_notes;
  few = t.few;
  room = room_after t.room p q;
}
