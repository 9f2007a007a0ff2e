-- Words written behind those in use: none, one, more behind these, and unset ones. Assumes nothing.
use Rattle.std.specs.declared.result.Result.{Result}
use Rattle.std.specs.declared.result.Result.TheVariants.{Ok, Err}
use Rattle.base_refusals.specs.declared.Fault.{Fault}
use mathlib.Core.Path.{◌≡◌, refl, sym, ◌∙◌, ap}
use mathlib.Core.List.{List, [], ◌∷◌, ◌++◌}
use Prim.Native.Nat.{ℕ, zero, suc, ◌+◌, ◌≤◌, ◌<◌}
use native.Mathlib.Omega.{arith}
use native.Mathlib.Decide.{dec_lt}
use lib.ListN.{length, get_or, set, replicate, length-append, length-replicate}
use lib.Seq.{get_or-set_same, get_or-set_other}
use Rattle.rules.specs.Base.{Outcome, ok}
use Rattle.rules.specs.Objects.{Cell, word, unset}
use Rattle.rules.specs.Buffers.{tab, cell_of, cell_row, WordRow}
use Rattle.rules.proofs.Rows.{tab-ext}
use Rattle.rules.proofs.Bools.{never}
use Rattle.base_rows.proofs.Sorted.{tab-split}
use Rattle.pass2_blocks.specs.Rows.{cells_at}
use Rattle.pass2_blocks.proofs.Placed.{cells-moved}
use Rattle.pass2_encode.specs.Worded.{told}
use Rattle.pass2_words.specs.Writing.{Clear, Room, Wrote, WroteAs}

pub cells-split : (ws ms : List ℕ) (lo a b : ℕ) → cells_at ws ms lo (a + b) ≡ cells_at ws ms lo a ++ cells_at ws ms (lo + a) b
unfolding cells_at
cells-split ws ms lo a b =
    tab-split a b (λ i. cell_row ws ms (lo + i))
    ∙ ap (λ (t : List Cell). tab a (λ i. cell_row ws ms (lo + i)) ++ t)
    (tab-ext b (λ i. cell_row ws ms (lo + (a + i))) (λ i. cell_row ws ms (lo + a + i)) (λ i h. ap (cell_row ws ms) (let e : lo + (a + i) ≡ lo + a + i = omega arith in e)))

no_cells : (ws ms : List ℕ) (lo : ℕ) → cells_at ws ms lo 0 ≡ []
unfolding cells_at
no_cells ws ms lo = refl

one_cell : (ws ms : List ℕ) (lo : ℕ) → cells_at ws ms lo 1 ≡ cell_row ws ms lo ∷ []
unfolding cells_at
one_cell ws ms lo = ap (λ (i : ℕ). cell_row ws ms i ∷ []) (let e : lo + 0 ≡ lo = omega arith in e)

pub wrote_none : (ws ms : List ℕ) (used : ℕ) → Wrote ws ms ws ms used []
wrote_none ws ms used = record {
  words_before = λ i h. refl;
  marks_before = λ i h. refl;
  cells = no_cells ws ms used;
  clean = λ i h k. absurd (omega arith);
  words_after = λ i h. refl;
  marks_after = λ i h. refl;
}

-- ONE
pub wrote_one : (ws ms : List ℕ) (used w : ℕ) → Room ws ms used 1 → Wrote ws ms (set ws used w) (set ms used 1) used (word w ∷ [])
wrote_one ws ms used w r =
    let x : get_or (set ws used w) used 0 ≡ w = get_or-set_same ws used w 0 (omega (arith, r.words)) in
    let y : get_or (set ms used 1) used 0 ≡ 1 = get_or-set_same ms used 1 0 (omega (arith, r.marks)) in
    record {
      words_before = λ i h. get_or-set_other ws used i w 0 (λ e. absurd (omega arith));
      marks_before = λ i h. get_or-set_other ms used i 1 0 (λ e. absurd (omega arith));
      cells = one_cell (set ws used w) (set ms used 1) used ∙ (λ v. cell_of (x v) (y v) ∷ []);
      clean = λ i h k. (let e : i ≡ used = omega arith in rw e (record { mark = omega arith; clear = λ z. absurd (omega arith) }));
      words_after = λ i h. get_or-set_other ws used i w 0 (λ e. absurd (omega arith));
      marks_after = λ i h. get_or-set_other ms used i 1 0 (λ e. absurd (omega arith));
    }

-- MORE BEHIND THESE
module _ (ws ms ws₁ ms₁ ws₂ ms₂ : List ℕ) (used : ℕ) (cs ds : List Cell) (p : Wrote ws ms ws₁ ms₁ used cs) (q : Wrote ws₁ ms₁ ws₂ ms₂ (used + length cs) ds) where
  both : length (cs ++ ds) ≡ length cs + length ds
  both = length-append cs ds

  rows : (i : ℕ) → used ≤ i → i < used + length (cs ++ ds) → WordRow ws₂ ms₂ i
  rows i h k = elim (dec_lt i (used + length cs)) [
    | yes y ↦ (let u = p.clean i h y in let a = q.words_before i y in let b = q.marks_before i y in record { mark = omega (arith, u.mark); clear = λ z. a ∙ u.clear (sym b ∙ z) })
    | no y ↦ q.clean i (omega arith) (omega (arith, both))
  ]

  pub wrote-more : Wrote ws ms ws₂ ms₂ used (cs ++ ds)
  wrote-more = record {
    words_before = λ i h. q.words_before i (omega arith) ∙ p.words_before i h;
    marks_before = λ i h. q.marks_before i (omega arith) ∙ p.marks_before i h;
    cells = ap (cells_at ws₂ ms₂ used) both
        ∙ (cells-split ws₂ ms₂ used (length cs) (length ds)
        ∙ (λ v. (cells-moved ws₁ ms₁ ws₂ ms₂ used used (length cs) (λ j l. q.words_before (used + j) (omega arith)) (λ j l. q.marks_before (used + j) (omega arith)) ∙ p.cells) v ++ q.cells v));
    clean = rows;
    words_after = λ i h. q.words_after i (omega (arith, both)) ∙ p.words_after i (omega (arith, both));
    marks_after = λ i h. q.marks_after i (omega (arith, both)) ∙ p.marks_after i (omega (arith, both));
  }

-- UNSET ONES
unset-tab : (n : ℕ) → tab n (λ i. unset) ≡ replicate n unset
unset-tab zero = refl
unset-tab (suc n) = ap (λ (t : List Cell). unset ∷ t) (unset-tab n)

module _ (ws ms : List ℕ) (used : ℕ) (c : Clear ws ms used) where
  unset-cells : (n : ℕ) → cells_at ws ms used n ≡ replicate n unset
  unfolding cells_at
  unset-cells n = tab-ext n (λ i. cell_row ws ms (used + i)) (λ i. unset) (λ i h. ap (cell_of (get_or ws (used + i) 0)) (c.marks (used + i) (omega arith))) ∙ unset-tab n

  pub wrote-unset : (n : ℕ) → Wrote ws ms ws ms used (replicate n unset)
  wrote-unset n = record {
    words_before = λ i h. refl;
    marks_before = λ i h. refl;
    cells = ap (cells_at ws ms used) (length-replicate n unset) ∙ unset-cells n;
    clean = λ i h k. (let x = c.words i h in let y = c.marks i h in record { mark = omega arith; clear = λ z. x });
    words_after = λ i h. refl;
    marks_after = λ i h. refl;
  }

-- ANSWERS
module _ (o : Outcome (List Cell)) (ws ms ws' ms' : List ℕ) (used : ℕ) where
  pub went_to : (u : ℕ) (cs : List Cell) → o ≡ ok cs → u ≡ used + length cs → Wrote ws ms ws' ms' used cs → WroteAs o ws ms ws' ms' used (Ok u)
  went_to u cs e l w = record {
    went = λ x q. (let y : u ≡ x = cc in record { cells = cs; is = e; upto = sym y ∙ l; wrote = w });
    stuck = λ f q. (never cc);
  }

-- an answer's word
module _ (ws ms ws' ms' : List ℕ) (used : ℕ) (z : Result ℕ Fault) where
  pub answer_word : (w : ℕ) → z ≡ Ok w → Wrote ws ms ws' ms' used (word w ∷ []) → WroteAs (told z) ws ms ws' ms' used (Ok (used + 1))
  answer_word w e h = went_to (told z) ws ms ws' ms' used (used + 1) (word w ∷ []) (ap told e) refl h
