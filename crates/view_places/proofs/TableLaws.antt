-- Texts by their numbers: what a test of all texts of a table says of one, a number past the table's last, and the name in a row. Assumes nothing.
use Prim.Native.Nat.{ℕ, ◌≤◌, ◌<◌}
use Prim.Native.String.{String}
use mathlib.Core.Path.{◌≡◌, refl, sym, ◌∙◌, ap}
use mathlib.Core.Bool.{Bool, true, false, ◌&&◌}
use mathlib.Core.List.{List, [], ◌∷◌}
use native.Mathlib.Decide.{dec_lt}
use native.Mathlib.Omega.{arith}
use borrow.Author.Tests.{ltb-true, ne_eqb}
use lib.Dec.{eqb, ltb}
use lib.ListN.{get_or, get_or-map, get_or-eq_default}
use Rattle.rules.specs.Base.{bytes, same}
use Rattle.rules.specs.Buffers.{tab}
use Rattle.rules.specs.Answers.{refusals, name_in, refusal_name}
use Rattle.rules.specs.Tokens.{while, wordy, digit, letter}
use Rattle.rules.proofs.Bools.{and_left, and_right}
use Rattle.rules.proofs.Named.{same_true}
use Rattle.rules.proofs.Rows.{length-tab, get_or-tab}
use Rattle.base_text.specs.Runs.{in_class}
use Rattle.base_text.specs.declared.Class.TheVariants.{Word}
use Rattle.view_places.specs.Names.{names, filled, rows, name_row}

-- every text of a table, and the empty one, passes a test
unfoldable pub all_texts : (List ℕ → Bool) → List (ℕ × String) → Bool
all_texts p [] = p []
all_texts p (r ∷ rs) = p (bytes r.1) && all_texts p rs

pub text-passes : (p : List ℕ → Bool) (rs : List (ℕ × String)) (n : ℕ) → all_texts p rs ≡ true → p (name_in rs n) ≡ true
unfolding all_texts name_in
text-passes p [] n h = h
text-passes p (r ∷ rs) n h = go (eqb r.0 n) (and_left (p (bytes r.1)) (all_texts p rs) h) (text-passes p rs n (and_right (p (bytes r.1)) (all_texts p rs) h))
  where
    go : (b : Bool) → p (bytes r.1) ≡ true → p (name_in rs n) ≡ true → p (elim b [ true ↦ bytes r.1 | false ↦ name_in rs n ]) ≡ true
    go true x y = x
    go false x y = y

-- every number of a table is below k
unfoldable pub all_below : ℕ → List (ℕ × String) → Bool
all_below k [] = true
all_below k (r ∷ rs) = ltb r.0 k && all_below k rs

pub none-past : (k : ℕ) (rs : List (ℕ × String)) (n : ℕ) → all_below k rs ≡ true → k ≤ n → name_in rs n ≡ []
unfolding all_below name_in
none-past k [] n h l = refl
none-past k (r ∷ rs) n h l =
    let m : r.0 < k = ltb-true r.0 k (and_left (ltb r.0 k) (all_below k rs) h) in
    rw (ne_eqb r.0 n (λ e. omega arith), name_in) (none-past k rs n (and_right (ltb r.0 k) (all_below k rs) h) l)

-- the texts of the numbers below k as a list
pub tabbed : (k : ℕ) (f : ℕ → List ℕ) (n : ℕ) → (k ≤ n → f n ≡ []) → get_or (tab k f) n [] ≡ f n
tabbed k f n h = go (dec_lt n k)
  where
    go : Dec (n < k) → get_or (tab k f) n [] ≡ f n
    go (yes l) = get_or-tab k f n [] l
    go (no l) =
        let z = length-tab k f in
        get_or-eq_default (tab k f) [] (omega (arith, z)) ∙ sym (h (omega arith))

-- a name in its row
past-names : (n : ℕ) → 52 ≤ n → refusal_name n ≡ []
unfolding refusal_name refusals all_below
past-names n h = none-past 52 refusals n refl h

pub name-row : (n : ℕ) → name_row n ≡ filled 17 (refusal_name n)
unfolding name_row rows names
name-row n = get_or-map (filled 17) names n [] ∙ ap (filled 17) (tabbed 52 refusal_name n (past-names n))

worded : List ℕ → Bool
worded t = same (while (in_class Word) (filled 17 t)) t

all-worded : all_texts worded refusals ≡ true
unfolding all_texts worded refusals while in_class wordy digit letter filled
all-worded = refl

pub name-text : (n : ℕ) → while (in_class Word) (name_row n) ≡ refusal_name n
unfolding worded refusal_name
name-text n = ap (while (in_class Word)) (name-row n) ∙ same_true _ _ (text-passes worded refusals n all-worded)
