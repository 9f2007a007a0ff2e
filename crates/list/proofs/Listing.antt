-- The three parts of a listing one behind the other, and what the buffer holds then. Assumes nothing.
use Rattle.std.specs.declared.result.Result.TheVariants.{Ok, Err}
use Prim.Native.Nat.{ℕ, ◌+◌, ◌≤◌, ◌<◌}
use mathlib.Core.Path.{◌≡◌, refl, sym, ◌∙◌, ap}
use mathlib.Core.Bool.{true, false}
use mathlib.Core.List.{List, ◌++◌, flat_map}
use native.Mathlib.Nat.{zero-add}
use native.Mathlib.Omega.{arith}
use borrow.Author.Tests.{le-leb, lt-leb}
use lib.Dec.{leb}
use lib.ListN.{length, length-append}
use Rattle.rules.specs.Objects.{Object}
use Rattle.rules.specs.Buffers.{zeros}
use Rattle.rules.specs.Listing.{block_lines, label_line, reloc_line, listing, list}
use Rattle.rules.proofs.Rows.{lay-nil}
use Rattle.list_lines.specs.Appended.{Appended}
use Rattle.list_lines.proofs.Appending.{appended-more, appended-laid}
use Rattle.object_answer.specs.Writes.{Whole}

module _ (x : Object) where
  abbrev A : List ℕ
  A = flat_map block_lines x.blocks

  abbrev B : List ℕ
  B = flat_map label_line x.labels

  abbrev C : List ℕ
  C = flat_map reloc_line x.relocs

  whole_length : length (listing x) ≡ length A + length B + length C
  unfolding listing
  whole_length = length-append (A ++ B) C ∙ ap (λ (n : ℕ). n + length C) (length-append A B)

  module _ (size : ℕ) (s : size ≡ length (listing x)) (out : List ℕ) where
    pub first_fits : size ≤ length out → 0 + length A ≤ length out
    first_fits h = omega (arith, whole_length)

    pub second_fits : (b : List ℕ) (m : ℕ) → size ≤ length out → Appended out b 0 m A → m + length B ≤ length b
    second_fits b m h p = omega (arith, whole_length, p.stop, p.size)

    pub third-fits : (b c : List ℕ) (m n : ℕ) → size ≤ length out → Appended out b 0 m A → Appended b c m n B → n + length C ≤ length c
    third-fits b c m n h p q = omega (arith, whole_length, p.stop, p.size, q.stop, q.size)

    pub no_room : out ≡ zeros (length out) → length out < size → Whole (list (length out) x) (length out) (Err 51) out
    unfolding list
    no_room z l = let t : leb (length (listing x)) (length out) ≡ false = lt-leb (length (listing x)) (length out) (omega arith) in
        rw t (record { answer = refl; buffer = z ∙ sym (lay-nil (length out)) })

    pub all-written : (b c d : List ℕ) (m n e : ℕ) → out ≡ zeros (length out) → size ≤ length out → Appended out b 0 m A → Appended b c m n B → Appended c d n e C → Whole (list (length out) x) (length out) (Ok e) d
    unfolding list listing
    all-written b c d m n e z h p q r =
        let t : leb (length (listing x)) (length out) ≡ true = le-leb (length (listing x)) (length out) (omega arith) in
        let w : Appended out d 0 e (listing x) = appended-more (appended-more p q) r in
        let f : e ≡ length (listing x) = w.stop ∙ zero-add (length (listing x)) in
        rw t (record { answer = ap Ok f; buffer = appended-laid out d e (length out) (listing x) z w })
