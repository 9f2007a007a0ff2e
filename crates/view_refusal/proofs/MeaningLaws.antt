-- A meaning in its row, inside and outside the table. Assumes nothing.
use Prim.Native.Nat.{ℕ, ◌-◌, ◌≤◌, ◌<◌}
use mathlib.Core.Path.{◌≡◌, refl, sym, ◌∙◌, ap}
use mathlib.Core.Bool.{Bool, true}
use mathlib.Core.List.{List, [], ◌++◌}
use native.Mathlib.Omega.{arith}
use lib.ListN.{length, get_or, take}
use Rattle.rules.specs.Base.{same}
use Rattle.rules.specs.Listing.{lf}
use Rattle.rules.specs.Buffers.{tab}
use Rattle.rules.specs.Answers.{name_in, refusal_name}
use Rattle.rules.specs.Tokens.{while}
use Rattle.rules.proofs.Named.{same_true}
use Rattle.rules.proofs.Rows.{get_or-tab}
use Rattle.rules.proofs.Shown.{take_while}
use Rattle.base_text.specs.Runs.{in_class, from, run_end}
use Rattle.base_text.specs.declared.Class.{Class}
use Rattle.base_text.specs.declared.Class.TheVariants.{Word, Line}
use Rattle.base_text.proofs.RunLaws.{end-le}
use Rattle.view_places.specs.Names.{filled, name_row}
use Rattle.view_places.proofs.TableLaws.{all_texts, text-passes, all_below, none-past, name-text}
use Rattle.view_text.specs.Put.{Put}
use Rattle.view_text.proofs.Putting.{put_same}
use Rattle.view_refusal.specs.Meanings.{meanings, meaning, meaning_row}

pub meaning-in : (n : ℕ) → n < 52 → get_or (tab 52 meaning_row) n [] ≡ meaning_row n
meaning-in n h = get_or-tab 52 meaning_row n [] h

pub meaning-out : (n : ℕ) → 52 ≤ n → meaning_row 0 ≡ meaning_row n
unfolding meaning_row meaning meanings all_below name_in
meaning-out n h = ap (λ (t : List ℕ). filled 67 (t ++ lf)) (sym (none-past 52 meanings n refl h))

-- a row's text ends before its line feed
lined : List ℕ → Bool
lined t = same (while (in_class Line) (filled 67 (t ++ lf))) t

all-lined : all_texts lined meanings ≡ true
unfolding all_texts lined meanings while in_class filled
all-lined = refl

meaning-text : (n : ℕ) → while (in_class Line) (meaning_row n) ≡ meaning n
unfolding lined meaning meaning_row
meaning-text n = same_true _ _ (text-passes lined meanings n all-lined)

-- the run that a row begins with
pub run_in : (k : Class) (s : List ℕ) {x : ℕ} → x ≡ run_end k s 0 → x ≤ length s
run_in k s e = omega (arith, end-le k s 0 (omega arith))

module _ {b c : List ℕ} {at e : ℕ} where
  pub run-put : (k : Class) (s : List ℕ) {x : ℕ} → x ≡ run_end k s 0 → Put b c at e (take (x - 0) s) → Put b c at e (while (in_class k) s)
  unfolding run_end from
  run-put k s {x} q p =
      let z : x - 0 ≡ length (while (in_class k) s) = omega (arith, q) in
      put_same (ap (λ (n : ℕ). take n s) z ∙ sym (take_while (in_class k) s)) p

  pub name-put : (n : ℕ) {m : ℕ} (r : List ℕ) → m ≡ n → r ≡ name_row m → Put b c at e (while (in_class Word) r) → Put b c at e (refusal_name n)
  name-put n r q h p = put_same (rw (h, q) (name-text n)) p

  pub meaning-put : (n : ℕ) {m : ℕ} (r : List ℕ) → m ≡ n → r ≡ meaning_row m → Put b c at e (while (in_class Line) r) → Put b c at e (meaning n)
  meaning-put n r q h p = put_same (rw (h, q) (meaning-text n)) p
