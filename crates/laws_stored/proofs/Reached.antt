-- Some good object takes `most_bytes`: 64 blocks that touch, of words set and unset in turn, 1,024 names of 64 bytes, of which the first is external, and 1,024 relocations to it. Assumes nothing.
use mathlib.Core.Path.{◌≡◌, refl, sym, ◌∙◌, ap}
use mathlib.Core.Bool.{Bool, true, ◌&&◌}
use mathlib.Core.List.{List, [], ◌∷◌, ◌++◌}
use mathlib.Core.Option.{some}
use Prim.Native.Nat.{ℕ, zero, suc, ◌+◌, ◌-◌, ◌*◌, ◌/◌, ◌%◌, ◌≤◌, ◌<◌}
use native.Mathlib.Omega.{arith}
use lib.ListN.{length, get_or, replicate}
use Rattle.rules.specs.Capacities.{word_room}
use Rattle.rules.specs.Tables.{Table, look, nat_order, name_order, sorting}
use Rattle.rules.specs.Objects.{Cell, unset, word, Lab, outer, defined, Name, Object, object, cells_from, cells, Good, good_name, holding}
use Rattle.rules.specs.Examples.{computing}
use Rattle.rules.specs.Stored.{sets, gap, Run, runs_of, run_items, block_items, label_items, reloc_items, stored, is_less}
use Rattle.rules.proofs.Bools.{never, and_left, and_right}
use Rattle.rules.proofs.Chains.{Chain}
use Rattle.laws_stored.specs.Sizes.{most_bytes}
use Rattle.laws_stored.proofs.Cut.{NoneUnset, room-is, runs_none, runs-gap, runs-set}
use Rattle.laws_stored.proofs.Taken.{is-less}
use Rattle.laws_stored.proofs.Ordered.{Each, Ends, Names, Places, Worded, Addressed, ordered-good}
use Rattle.laws_stored.proofs.Most.{bytes_of, bytes-append, stored-length}
use Rattle.laws_stored.proofs.Lookups.{inside, cells-append}

-- WORDS: each a run by itself

unfoldable turns : ℕ → List Cell
turns zero = []
turns (suc m) = word 0 ∷ unset ∷ turns m

length-turns : (m : ℕ) → length (turns m) ≡ m * 2
unfolding turns
length-turns zero = refl
length-turns (suc m) = let e = length-turns m in omega arith

no-turns : turns 0 ≡ []
unfolding turns
no-turns = refl

set_first : (m : ℕ) → NoneUnset (turns m)
unfolding turns
set_first zero = tt
set_first (suc m) = tt

turns-runs : (m : ℕ) → runs_of (turns (suc m)) ≡ sets (0 ∷ []) ∷ gap 1 ∷ runs_of (turns m)
unfolding turns
turns-runs m = runs-set 0 [] (unset ∷ turns m) (omega (arith, room-is)) tt ∙ ap (λ (rs : List Run). sets (0 ∷ []) ∷ rs) (runs-gap 0 (turns m) (set_first m))

turns-bytes : (m : ℕ) → bytes_of (run_items (runs_of (turns m))) ≡ m * 10
unfolding turns
turns-bytes zero = ap (λ (rs : List Run). bytes_of (run_items rs)) runs_none
turns-bytes (suc m) = ap (λ (rs : List Run). bytes_of (run_items rs)) (turns-runs m) ∙ (let e = turns-bytes m in omega arith)

turns-append : (m k : ℕ) → turns (m + k) ≡ turns m ++ turns k
unfolding turns
turns-append zero k = let e : 0 + k ≡ k = omega arith in rw e refl
turns-append (suc m) k = let e : suc m + k ≡ suc (m + k) = omega arith in rw e (ap (λ (l : List Cell). word 0 ∷ unset ∷ l) (turns-append m k))

turns-zero : (m j : ℕ) → j < m → get_or (turns m) (j * 2) unset ≡ word 0
unfolding turns
turns-zero zero j l = absurd (omega arith)
turns-zero (suc m) zero l = refl
turns-zero (suc m) (suc j) l = let e : suc j * 2 ≡ suc (suc (j * 2)) = omega arith in rw e (turns-zero m j (omega arith))

turns-worded : (s m : ℕ) → Each Worded (cells_from s (turns m))
unfolding turns
turns-worded s zero = tt
turns-worded s (suc m) = ((λ w e. let z : 0 ≡ w = cc in omega arith), ((λ w e. never cc), turns-worded (suc (suc s)) m))

-- BLOCKS that touch, of 1,016 words each

unfoldable words : List Cell
words = turns 508

words_count : length words ≡ 1016
unfolding words
words_count = length-turns 508

words-bytes : bytes_of (run_items (runs_of words)) ≡ 5080
unfolding words
words-bytes = turns-bytes 508

unfoldable blocks_of : ℕ → ℕ → Table ℕ (List Cell)
blocks_of zero s = []
blocks_of (suc n) s = (s, words) ∷ blocks_of n (s + length words)

blocks-count : (n s : ℕ) → length (blocks_of n s) ≡ n
unfolding blocks_of
blocks-count zero s = refl
blocks-count (suc n) s = ap suc (blocks-count n (s + length words))

blocks-chain : (n s : ℕ) → Chain s (blocks_of n s)
unfolding blocks_of
blocks-chain zero s = tt
blocks-chain (suc n) s = (omega arith, omega (arith, words_count), blocks-chain n (s + length words))

blocks-ends : (n s : ℕ) → s + n * 1016 ≤ word_room → Ends (blocks_of n s)
unfolding blocks_of
blocks-ends zero s l = tt
blocks-ends (suc n) s l = (omega (arith, words_count), blocks-ends n (s + length words) (omega (arith, words_count)))

blocks-bytes : (n s : ℕ) → bytes_of (block_items (blocks_of n s)) ≡ n * 5087
unfolding blocks_of
blocks-bytes zero s = refl
blocks-bytes (suc n) s =
    omega (arith, bytes-append (run_items (runs_of words)) (block_items (blocks_of n (s + length words))), words-bytes, blocks-bytes n (s + length words))

blocks-cells : (n s : ℕ) → cells (blocks_of n s) ≡ cells_from s (turns (n * 508))
unfolding blocks_of words
blocks-cells zero s = ap (cells_from s) (sym no-turns)
blocks-cells (suc n) s =
    let e : suc n * 508 ≡ 508 + n * 508 = omega arith in
    ap (λ (t : Table ℕ Cell). cells_from s words ++ t) (blocks-cells n (s + length words))
    ∙ (sym (cells-append s words (turns (n * 508))) ∙ ap (cells_from s) (sym (ap turns e ∙ turns-append 508 (n * 508))))

-- NAMES of 64 bytes

-- three letters of eleven, in their order, behind the letter A
abbrev name_of : ℕ → Name
name_of k = replicate 61 65 ++ ((65 + k / 121) ∷ (65 + k / 11 % 11) ∷ (65 + k % 11) ∷ [])

abbrev defined_from : ℕ → ℕ → Table Name Lab
defined_from zero k = []
defined_from (suc n) k = (name_of k, defined 0) ∷ defined_from n (suc k)

unfoldable names : Table Name Lab
names = (name_of 0, outer) ∷ defined_from 1023 1

abbrev in_order : Name → Table Name Lab → Bool
in_order l [] = true
in_order l (e ∷ t) = is_less (name_order.tri l e.0) && (good_name e.0 && in_order e.0 t)

in_order_lem : (l : Name) (t : Table Name Lab) → in_order l t ≡ true → Names l t
in_order_lem l [] e = tt
in_order_lem l (d ∷ t) e =
    let f = and_right (is_less (name_order.tri l d.0)) _ e in
    (is-less (name_order.tri l d.0) (and_left _ _ e), and_left _ _ f, in_order_lem d.0 t (and_right (good_name d.0) _ f))

names-tested : in_order [] names ≡ true
unfolding computing holding sorting names
names-tested = refl

names-bytes : bytes_of (label_items names) ≡ 70654
unfolding names
names-bytes = refl

names-count : length names ≡ 1024
unfolding names
names-count = refl

names-first : look name_order names (name_of 0) ≡ some outer
unfolding sorting names
names-first = refl

defined-low : (n k : ℕ) → Each Addressed (defined_from n k)
defined-low zero k = tt
defined-low (suc n) k = ((λ a e. let z : 0 ≡ a = cc in omega arith), defined-low n (suc k))

names-low : Each Addressed names
unfolding names
names-low = ((λ a e. never cc), defined-low 1023 1)

-- RELOCATIONS at every other address

unfoldable relocs_of : ℕ → ℕ → Table ℕ Name
relocs_of zero j = []
relocs_of (suc n) j = (j * 2, name_of 0) ∷ relocs_of n (suc j)

relocs-count : (n j : ℕ) → length (relocs_of n j) ≡ n
unfolding relocs_of
relocs-count zero j = refl
relocs-count (suc n) j = ap suc (relocs-count n (suc j))

relocs-bytes : (n j : ℕ) → bytes_of (reloc_items (relocs_of n j)) ≡ n * 69
unfolding relocs_of
relocs-bytes zero j = refl
relocs-bytes (suc n) j = let e = relocs-bytes n (suc j) in omega arith

abbrev blocks : Table ℕ (List Cell)
blocks = blocks_of 64 0

word-zero : (j : ℕ) → j < 32512 → look nat_order (cells blocks) (j * 2) ≡ some (word 0)
word-zero j l =
    let n = length-turns 32512 in
    let e : j * 2 - 0 ≡ j * 2 = omega arith in
    ap (λ (t : Table ℕ Cell). look nat_order t (j * 2)) (blocks-cells 64 0)
    ∙ (inside 0 (turns 32512) (j * 2) (omega arith) (omega arith) ∙ rw e (ap some (turns-zero 32512 j l)))

relocs-placed : (n j y : ℕ) → j + n ≤ 32512 → y ≤ j * 2 → Places blocks names y (relocs_of n j)
unfolding relocs_of
relocs-placed zero j y l m = tt
relocs-placed (suc n) j y l m = (m, (word-zero j (omega arith), names-first), relocs-placed n (suc j) (suc (j * 2)) (omega arith) (omega arith))

-- THE OBJECT

unfoldable fullest : Object
fullest = object blocks names (relocs_of 1024 0)

fullest-good : Good fullest
unfolding fullest
fullest-good =
    ordered-good fullest (record {
      chain = blocks-chain 64 0;
      ends = blocks-ends 64 0 (omega arith);
      names = in_order_lem [] names names-tested;
      places = relocs-placed 1024 0 0 (omega arith) (omega arith);
      few_blocks = omega (arith, blocks-count 64 0);
      few_labels = omega (arith, names-count);
      few_relocs = omega (arith, relocs-count 1024 0);
    }) (rw (blocks-cells 64 0) (turns-worded 0 32512)) names-low

fullest-bytes : length (stored fullest) ≡ most_bytes
unfolding fullest
fullest-bytes = omega (arith, stored-length fullest, blocks-bytes 64 0, names-bytes, relocs-bytes 1024 0)

-- Some good object takes that many bytes.
pub most-taken : (o : Object) × Good o × (length (stored o) ≡ most_bytes)
most-taken = (fullest, fullest-good, fullest-bytes)

pub most-is : most_bytes ≡ 466881
most-is = refl
