-- The table of mnemonics is the definition's. Assumes nothing.
use Prim.Native.Nat.{ℕ, zero, suc, ◌≤◌}
use mathlib.Core.Path.{◌≡◌, refl, sym, ◌∙◌, ap}
use mathlib.Core.List.{List, [], ◌∷◌, map}
use native.Mathlib.Omega.{arith}
use native.Mathlib.Nat.{not-suc-le-zero, le_of_suc-le-suc}
use lib.ListN.{length, get_or, take, length-take}
use Rattle.rules.specs.Tokens.{digit, letter, wordy, while}
use Rattle.base_text.specs.Runs.{in_class, from, run_end}
use Rattle.base_text.specs.declared.Class.TheVariants.{Word}
use Rattle.base_text.proofs.RunLaws.{end-le}
use Rattle.view_places.specs.Names.{filled}
use Rattle.view_text.specs.Put.{Put}
use Rattle.view_text.proofs.Putting.{put_same}
use Rattle.view_instruction.specs.Spelled.{keys, key_row, key_text}

-- a row of a table, read and then turned
row-turned : {A B : Type 0} (f : A → B) (l : List A) (k : ℕ) (d : A) → f (get_or l k d) ≡ get_or (map f l) k (f d)
row-turned f [] k d = refl
row-turned f (x ∷ l) zero d = refl
row-turned f (x ∷ l) (suc k) d = row-turned f l k d

row-past : {A : Type 0} (l : List A) (k : ℕ) (d : A) → length l ≤ k → get_or l k d ≡ d
row-past [] k d h = refl
row-past (x ∷ l) zero d h = absurd (not-suc-le-zero h)
row-past (x ∷ l) (suc k) d h = row-past l k d (le_of_suc-le-suc h)

-- the mnemonics filled up with spaces
unfoldable pub rows : List (List ℕ)
rows = map (filled 5) keys

rows-keys : map key_text rows ≡ keys
unfolding rows keys key_text filled run_end from while in_class wordy digit letter
rows-keys = refl

no_key : key_text [] ≡ []
unfolding key_text run_end while from
no_key = refl

blank-key : key_text (filled 5 []) ≡ []
unfolding key_text filled run_end from while in_class wordy digit letter
blank-key = refl

pub key_in : (k : ℕ) → key_text (get_or rows k []) ≡ key_row k
unfolding key_row
key_in k = row-turned key_text rows k [] ∙ (ap (λ (l : List (List ℕ)). get_or l k (key_text [])) rows-keys ∙ ap (get_or keys k) no_key)

pub key-out : (k : ℕ) → 32 ≤ k → key_text (filled 5 []) ≡ key_row k
unfolding key_row keys
key-out k h = blank-key ∙ sym (row-past keys k [] h)

-- the part of a row that is its mnemonic
pub key-short : (t : List ℕ) {n : ℕ} → n ≡ run_end Word t 0 → n ≤ length t
key-short t e = rw e (end-le _ _ _ (omega arith))

pub key-count : (t : List ℕ) {n : ℕ} → n ≡ run_end Word t 0 → n ≡ length (take n t)
key-count t {n} e = let h = key-short t e in rw length-take (omega (arith, h))

pub key-put : {b c : List ℕ} {at e : ℕ} (k : ℕ) (t : List ℕ) {n : ℕ} → key_text t ≡ key_row k → n ≡ run_end Word t 0 → Put b c at e (take n t) → Put b c at e (key_row k)
unfolding key_text
key-put k t q r p = put_same (rw r q) p
