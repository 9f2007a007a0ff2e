-- What the loop that lays labels keeps, and what the clearing before it leaves. Assumes nothing.
use mathlib.Core.Path.{◌≡◌, sym, ◌∙◌, ap}
use mathlib.Core.List.{List}
use Prim.Native.Nat.{ℕ, ◌+◌, ◌*◌, ◌≤◌, ◌<◌}
use native.Mathlib.Omega.{arith}
use lib.ListN.{length, get_or, length-replicate}
use Rattle.rules.specs.Tables.{Table}
use Rattle.rules.specs.Objects.{Lab, address_of, Name}
use Rattle.rules.specs.Buffers.{tab, zeros, lay, flag_of, name_row, lab_row, name_bytes, label_cells}
use Rattle.rules.proofs.Rows.{tab-more}
use Rattle.object.specs.Slots.{upper_name, upper_row}
use Rattle.object_layout_labels.specs.Laying.{Blank, PutLabel, Layable, LabelRoom, upper_labels, LaidLabels}
use Rattle.object_layout_labels.proofs.Rows.{put-at, lab-cells, long, Standing, standing-more}

pub record Laying (n : ℕ) (bs rs ls₀ ns₀ ols obs : List ℕ) (k at : ℕ) : Type 0 where
  pub within : k ≤ n
  pub small : at ≤ k * 64
  pub rows : length ols ≡ length ls₀
  pub names : length obs ≡ length ns₀
  pub standing : Standing (tab k (upper_row rs bs)) ls₀ ns₀ ols obs k at

pub laying-more : {n k at r : ℕ} {bs rs ls₀ ns₀ ols obs ols' obs' : List ℕ} → Laying n bs rs ls₀ ns₀ ols obs k at → Layable rs bs n → LabelRoom n ls₀ ns₀ → k < n
    → PutLabel ols obs ols' obs' k at (get_or rs (k * 4) 0) (get_or rs (k * 4 + 1) 0) (upper_name rs bs k) r → length ols' ≡ length ols → length obs' ≡ length obs → Laying n bs rs ls₀ ns₀ ols' obs' (k + 1) r
laying-more {n} {k} {at} {r} {bs} {rs} {ls₀} {ns₀} {ols} {obs} {ols'} {obs'} c v m l p eo eb =
    let h = v.small k l in
    let z = long (name_row rs bs k) in
    let g = lab-cells (get_or rs (k * 4) 0) (get_or rs (k * 4 + 1) 0) (v.flag k l) (v.outside k l) in
    let q : PutLabel ols obs ols' obs' k at (address_of (lab_row rs k)) (flag_of (lab_row rs k)) (upper_name rs bs k) r = put-at p g.0 g.1 in
    record {
      within = omega arith;
      small = omega (arith, c.small, p.next);
      rows = eo ∙ c.rows;
      names = eb ∙ c.names;
      standing = rw (tab-more k (upper_row rs bs)) (standing-more (tab k (upper_row rs bs)) ls₀ ns₀ ols obs ols' obs' k at r (upper_row rs bs k) c.standing q (omega (arith, m.rows)) (omega (arith, m.names, c.small)));
    }

pub laying-all : {n k at : ℕ} {bs rs ls₀ ns₀ ols obs : List ℕ} → Laying n bs rs ls₀ ns₀ ols obs k at → n ≤ k → LaidLabels (upper_labels n rs bs) ls₀ ns₀ ols obs
unfolding upper_labels
laying-all {n} {k} {bs = bs} {rs = rs} {ls₀ = ls₀} {ns₀ = ns₀} c l =
    let e : k ≡ n = omega (arith, c.within) in
    record {
      rows = c.standing.rows ∙ ap (λ (x : ℕ). lay (label_cells 0 (tab x (upper_row rs bs))) (length ls₀)) e;
      names = c.standing.names ∙ ap (λ (x : ℕ). lay (name_bytes (tab x (upper_row rs bs))) (length ns₀)) e;
    }

-- AFTER THE CLEARING
length-zeros : (n : ℕ) → length (zeros n) ≡ n
length-zeros n = length-replicate n 0

pub blank_of : {l : List ℕ} (n : ℕ) → l ≡ zeros n → Blank l
blank_of {l} n e = record { zero = e ∙ ap zeros (sym (ap length e ∙ length-replicate n 0)) }

pub room_after : {n : ℕ} {ls ns ls₀ ns₀ : List ℕ} → LabelRoom n ls ns → ls₀ ≡ zeros (length ls) → ns₀ ≡ zeros (length ns) → LabelRoom n ls₀ ns₀
room_after {ls = ls} {ns = ns} r p q =
    record { rows = omega (arith, r.rows, ap length p, length-zeros (length ls)); names = omega (arith, r.names, ap length q, length-zeros (length ns)) }

pub laid-after : {t : Table Name Lab} {ls ns ls₀ ns₀ ls' ns' : List ℕ} → LaidLabels t ls₀ ns₀ ls' ns' → ls₀ ≡ zeros (length ls) → ns₀ ≡ zeros (length ns) → LaidLabels t ls ns ls' ns'
laid-after {t} {ls} {ns} c p q = record {
  rows = c.rows ∙ ap (lay (label_cells 0 t)) (ap length p ∙ length-replicate (length ls) 0);
  names = c.names ∙ ap (lay (name_bytes t)) (ap length q ∙ length-replicate (length ns) 0);
}
