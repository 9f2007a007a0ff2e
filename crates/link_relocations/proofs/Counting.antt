-- What the loop that counts open relocations keeps. Assumes nothing.
use mathlib.Core.Path.{◌≡◌, sym, ◌∙◌, ap}
use mathlib.Core.Bool.{Bool, true, false}
use mathlib.Core.List.{List, [], ◌∷◌}
use Prim.Native.Nat.{ℕ, suc, ◌+◌, ◌*◌, ◌≤◌, ◌<◌}
use native.Mathlib.Omega.{arith}
use lib.ListN.{length, get_or, length-append}
use Rattle.rules.specs.Buffers.{tab}
use Rattle.rules.proofs.Rows.{tab-more}
use Rattle.link_notes.specs.Notes.{carried, carried_rows}
use Rattle.link_relocations.specs.Open.{is_open, open_rows, Carried}
use Rattle.link_relocations.proofs.Sieved.{open-append, open_none, open_stays, open-goes}

pub record Counting (n : ℕ) (rs ns : List ℕ) (count k : ℕ) : Type 0 where
  pub within : k ≤ n
  pub small : count ≤ k
  pub here : count ≡ length (open_rows (tab k (carried rs ns)))

pub counting-none : {n : ℕ} {rs ns : List ℕ} → Counting n rs ns 0 0
counting-none = record { within = omega arith; small = omega arith; here = sym (ap length open_none) }

module _ {n : ℕ} {rs ns : List ℕ} {count k : ℕ} (c : Counting n rs ns count k) (l : k < n) where
  more : (d : ℕ) → length (open_rows (carried rs ns k ∷ [])) ≡ d → count + d ≡ length (open_rows (tab (k + 1) (carried rs ns)))
  more d e =
      omega (
        arith,
        c.here,
        e,
        ap length (ap open_rows (tab-more k (carried rs ns)) ∙ open-append (tab k (carried rs ns)) (carried rs ns k ∷ [])),
        length-append (open_rows (tab k (carried rs ns))) (open_rows (carried rs ns k ∷ [])),
      )

  pub counting-stays : {t : Bool} → t ≡ is_open (carried rs ns k).1 → t ≡ true → Counting n rs ns (count + 1) (k + 1)
  counting-stays p q =
      record {
        within = omega arith;
        small = omega (arith, c.small);
        here = more 1 (ap length (open_stays (carried rs ns k) [] (sym p ∙ q)) ∙ ap suc (ap length open_none));
      }

  pub counting-goes : {t : Bool} → t ≡ is_open (carried rs ns k).1 → t ≡ false → Counting n rs ns count (k + 1)
  counting-goes p q =
      record {
        within = omega arith;
        small = omega (arith, c.small);
        here = omega (arith, more 0 (ap length (open-goes (carried rs ns k) [] (sym p ∙ q)) ∙ ap length open_none));
      }

pub counting-all : {n : ℕ} {rs ns : List ℕ} {count k : ℕ} → Counting n rs ns count k → n ≤ k → count ≡ length (open_rows (carried_rows n rs ns))
unfolding carried_rows
counting-all {n} {rs} {ns} {count} {k} c l = let e : k ≡ n = omega (arith, c.within) in c.here ∙ ap (λ (m : ℕ). length (open_rows (tab m (carried rs ns)))) e

-- row k has both cells, and its label a note
pub row-in : {n : ℕ} {rs ns : List ℕ} {k : ℕ} → Carried n rs ns → k < n → k * 2 + 1 < length rs
row-in t l = omega (arith, t.room)

pub note-in : {n : ℕ} {rs ns : List ℕ} {k : ℕ} → Carried n rs ns → k < n → get_or rs (k * 2 + 1) 0 * 2 + 1 < length ns
note-in {k = k} t l = t.noted k l
