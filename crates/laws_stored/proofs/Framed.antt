-- Bytes and fields: what a field's content says and which content says it, the field at a position, and fields written one behind the other. Assumes nothing.
use mathlib.Core.Path.{◌≡◌, refl, sym, ◌∙◌, ap}
use mathlib.Core.Bool.{Bool, true, false}
use mathlib.Core.List.{List, [], ◌∷◌, ◌++◌, append_assoc}
use mathlib.Core.Option.{Option, none, some}
use Prim.Native.Nat.{ℕ, zero, suc, ◌+◌, ◌*◌, ◌/◌, ◌%◌, ◌≤◌, ◌<◌}
use native.Mathlib.Omega.{arith}
use native.Mathlib.Nat.{div-add-mod'}
use lib.ListN.{length, take, drop, get_or, length-append, length-take, length-drop, take-append-drop, drop_of_length-le}
use lib.Seq.{take_at, drop_at, drop-cons, drop-drop, take-add}
use lib.Dec.{leb}
use borrow.Author.Tests.{leb-true, le-leb, lt-leb}
use Rattle.rules.specs.Objects.{outer, defined}
use Rattle.rules.specs.Stored.{sets, gap, Item, fin, block, run, label, reloc, pairs, tag_of, content, frame, spell, cons_to, words, as_sets, meant, over, cut_short, field, framed, field_in, field_at}
use Rattle.rules.proofs.Bools.{never}
use Rattle.rules.proofs.Tables.{none-some}
use Rattle.laws_stored.specs.Beginnings.{AreBytes}
use Rattle.laws_stored.specs.Offsets.{part_at, length_at, next_at}

-- BYTES

abbrev pub Bytes : List ℕ → Type 0
Bytes [] = Unit {0}
Bytes (a ∷ b) = (a < 256) × Bytes b

pub all-bytes : (b : List ℕ) → AreBytes b → Bytes b
all-bytes [] h = tt
all-bytes (a ∷ b) h = (h 0, all-bytes b (λ i. h (suc i)))

pub bytes_take : (k : ℕ) (b : List ℕ) → Bytes b → Bytes (take k b)
bytes_take zero b h = tt
bytes_take (suc k) [] h = tt
bytes_take (suc k) (a ∷ b) h = (h.0, bytes_take k b h.1)

pub bytes_drop : (k : ℕ) (b : List ℕ) → Bytes b → Bytes (drop k b)
bytes_drop zero b h = h
bytes_drop (suc k) [] h = tt
bytes_drop (suc k) (a ∷ b) h = bytes_drop k b h.1

pub bytes-right : (x y : List ℕ) → Bytes (x ++ y) → Bytes y
bytes-right [] y h = h
bytes-right (a ∷ x) y h = bytes-right x y h.1

pub bytes_left : (x y : List ℕ) → Bytes (x ++ y) → Bytes x
bytes_left [] y h = tt
bytes_left (a ∷ x) y h = (h.0, bytes_left x y h.1)

pub bytes-both : (x y : List ℕ) → Bytes x → Bytes y → Bytes (x ++ y)
bytes-both [] y h k = k
bytes-both (a ∷ x) y h k = (h.0, bytes-both x y h.1 k)

high : (a b : ℕ) → b < 256 → (a * 256 + b) / 256 ≡ a
high a b h = omega arith

low : (a b : ℕ) → b < 256 → (a * 256 + b) % 256 ≡ b
low a b h = omega arith

pub whole : (n : ℕ) → n / 256 * 256 + n % 256 ≡ n
whole n = div-add-mod' n 256

-- WORDS

words-pairs : (ws : List ℕ) → words (pairs ws) ≡ some ws
unfolding words
words-pairs [] = refl
words-pairs (w ∷ ws) = rw (words-pairs ws, whole w) refl

pairs-words : (c ws : List ℕ) → Bytes c → words c ≡ some ws → pairs ws ≡ c
unfolding words
pairs-words [] ws h e = let q : ws ≡ [] = cc in rw q refl
pairs-words (a ∷ []) ws h e = absurd (none-some e)
pairs-words (a ∷ b ∷ c) ws h e = go (words c) refl (λ us q. pairs-words c us h.1.1 q) e
  where
    go : (x : Option (List ℕ)) → words c ≡ x → ((us : List ℕ) → words c ≡ some us → pairs us ≡ c) → cons_to (a * 256 + b) x ≡ some ws → pairs ws ≡ a ∷ b ∷ c
    go none q f r = absurd (none-some r)
    go (some us) q f r =
        let z : ws ≡ (a * 256 + b) ∷ us = cc in
        rw (z, high a b h.1.0, low a b h.1.0, f us q) refl

-- WHAT CONTENT SAYS

-- the content of an item says the item
pub meant-content : (i : Item) → meant (tag_of i) (content i) ≡ some i
unfolding meant
meant-content fin = refl
meant-content (block s n) = rw (whole s, whole n) refl
meant-content (run (sets ws)) = rw (words-pairs ws) refl
meant-content (run (gap n)) = rw (whole n) refl
meant-content (label n (defined a)) = rw (whole a) refl
meant-content (label n outer) = refl
meant-content (reloc a n) = rw (whole a) refl

-- and no other tag and content do
pub record Says (t : ℕ) (c : List ℕ) (i : Item) : Type 0 where
  pub tag : tag_of i ≡ t
  pub body : content i ≡ c

pub content-meant : (t : ℕ) (c : List ℕ) (i : Item) → Bytes c → meant t c ≡ some i → Says t c i
unfolding meant
content-meant zero [] i h e = let q : i ≡ fin = cc in rw q (record { tag = refl; body = refl })
content-meant zero (a ∷ c) i h e = absurd (none-some e)
content-meant (suc zero) [] i h e = absurd (none-some e)
content-meant (suc zero) (a ∷ []) i h e = absurd (none-some e)
content-meant (suc zero) (a ∷ b ∷ []) i h e = absurd (none-some e)
content-meant (suc zero) (a ∷ b ∷ c ∷ []) i h e = absurd (none-some e)
content-meant (suc zero) (a ∷ b ∷ c ∷ d ∷ []) i h e =
    let q : i ≡ block (a * 256 + b) (c * 256 + d) = cc in
    rw q (record { tag = refl; body = rw (high a b h.1.0, low a b h.1.0, high c d h.1.1.1.0, low c d h.1.1.1.0) refl })
content-meant (suc zero) (a ∷ b ∷ c ∷ d ∷ e' ∷ f) i h e = absurd (none-some e)
content-meant (suc (suc zero)) c i h e = go (words c) refl e
  where
    go : (x : Option (List ℕ)) → words c ≡ x → as_sets x ≡ some i → Says 2 c i
    go none q r = absurd (none-some r)
    go (some ws) q r =
        let z : i ≡ run (sets ws) = cc in
        rw z (record { tag = refl; body = pairs-words c ws h q })
content-meant (suc (suc (suc zero))) [] i h e = absurd (none-some e)
content-meant (suc (suc (suc zero))) (a ∷ []) i h e = absurd (none-some e)
content-meant (suc (suc (suc zero))) (a ∷ b ∷ []) i h e =
    let q : i ≡ run (gap (a * 256 + b)) = cc in
    rw q (record { tag = refl; body = rw (high a b h.1.0, low a b h.1.0) refl })
content-meant (suc (suc (suc zero))) (a ∷ b ∷ c ∷ d) i h e = absurd (none-some e)
content-meant (suc (suc (suc (suc zero)))) [] i h e = absurd (none-some e)
content-meant (suc (suc (suc (suc zero)))) (a ∷ []) i h e = absurd (none-some e)
content-meant (suc (suc (suc (suc zero)))) (a ∷ b ∷ n) i h e =
    let q : i ≡ label n (defined (a * 256 + b)) = cc in
    rw q (record { tag = refl; body = rw (high a b h.1.0, low a b h.1.0) refl })
content-meant (suc (suc (suc (suc (suc zero))))) c i h e = let q : i ≡ label c outer = cc in rw q (record { tag = refl; body = refl })
content-meant (suc (suc (suc (suc (suc (suc zero)))))) [] i h e = absurd (none-some e)
content-meant (suc (suc (suc (suc (suc (suc zero)))))) (a ∷ []) i h e = absurd (none-some e)
content-meant (suc (suc (suc (suc (suc (suc zero)))))) (a ∷ b ∷ n) i h e =
    let q : i ≡ reloc (a * 256 + b) n = cc in
    rw q (record { tag = refl; body = rw (high a b h.1.0, low a b h.1.0) refl })
content-meant (suc (suc (suc (suc (suc (suc (suc t))))))) c i h e = absurd (none-some e)

-- THE FIELD AT A POSITION

three : (b : List ℕ) (at : ℕ) → at + 3 ≤ length b → drop at b ≡ get_or b at 0 ∷ get_or b (at + 1) 0 ∷ get_or b (at + 1 + 1) 0 ∷ drop (at + 3) b
three b at p =
    let e1 : at + 1 ≡ suc at = omega arith in
    let e3 : at + 3 ≡ suc (suc (suc at)) = omega arith in
    let e2 : suc at + 1 ≡ suc (suc at) = omega arith in
    rw (e1, e3, e2)
    (drop-cons b at 0 (omega arith) ∙ (ap (λ (l : List ℕ). get_or b at 0 ∷ l) (drop-cons b (suc at) 0 (omega arith)
    ∙ ap (λ (l : List ℕ). get_or b (suc at) 0 ∷ l) (drop-cons b (suc (suc at)) 0 (omega arith)))))

-- the bytes end there
pub field-over : (b : List ℕ) (at : ℕ) → length b ≤ at → field_at b at ≡ over
unfolding field_at field_in
field-over b at p = rw (drop_of_length-le b p) refl

-- tag and length are not there
pub field-short : (b : List ℕ) (at : ℕ) → at < length b → length b < at + 3 → field_at b at ≡ cut_short
unfolding field_at field_in
field-short b at p q = go (drop at b) (omega (arith, length-drop at b)) (omega (arith, length-drop at b))
  where
    go : (r : List ℕ) → 0 < length r → length r < 3 → field_in at r ≡ cut_short
    go [] l m = absurd (omega arith)
    go (t ∷ []) l m = refl
    go (t ∷ h ∷ []) l m = refl
    go (t ∷ h ∷ n ∷ c) l m = absurd (omega arith)

-- the content is not there whole
pub field_cut : (b : List ℕ) (at : ℕ) → at + 3 ≤ length b → length b < next_at b at → field_at b at ≡ cut_short
unfolding field_at field_in
field_cut b at p q =
    let n = get_or b (at + 1) 0 * 256 + get_or b (at + 1 + 1) 0 in
    let r : leb n (length (drop (at + 3) b)) ≡ false = lt-leb n (length (drop (at + 3) b)) (omega (arith, length-drop (at + 3) b)) in
    rw (three b at p) (rw r refl)

-- a field is there
pub field-there : (b : List ℕ) (at : ℕ) → next_at b at ≤ length b → field_at b at ≡ field (get_or b at 0) (part_at b (at + 3) (length_at b at)) (next_at b at)
unfolding field_at field_in part_at
field-there b at p =
    let n = get_or b (at + 1) 0 * 256 + get_or b (at + 1 + 1) 0 in
    let r : leb n (length (drop (at + 3) b)) ≡ true = le-leb n (length (drop (at + 3) b)) (omega (arith, length-drop (at + 3) b)) in
    rw (three b at (omega arith)) (rw r refl)

-- a field written behind other bytes is read there
pub field-written : (x : List ℕ) (t : ℕ) (c y : List ℕ) → field_at (x ++ (frame t c ++ y)) (length x) ≡ field t c (length x + 3 + length c)
unfolding field_at field_in
field-written x t c y =
    rw (drop_at x (frame t c ++ y) (length x) refl)
    (rw (whole (length c), le-leb (length c) (length (c ++ y)) (omega (arith, length-append c y)), take_at c y (length c) refl) refl)

-- where a field that is read ends
pub record Extent (b : List ℕ) (at : ℕ) (c : List ℕ) (z : ℕ) : Type 0 where
  pub after : z ≡ at + 3 + length c
  pub within : z ≤ length b

pub field-extent : (b : List ℕ) (at t : ℕ) (c : List ℕ) (z : ℕ) → field_at b at ≡ field t c z → Extent b at c z
unfolding field_at field_in
field-extent b at t c z e = go (drop at b) refl e
  where
    cut : (t' h l : ℕ) (r : List ℕ) (q : Bool) → leb (h * 256 + l) (length r) ≡ q → drop at b ≡ t' ∷ h ∷ l ∷ r
        → framed q t' (take (h * 256 + l) r) (at + 3 + (h * 256 + l)) ≡ field t c z → Extent b at c z
    cut t' h l r false p d f = never cc
    cut t' h l r true p d f =
        let n : h * 256 + l ≤ length r = leb-true (h * 256 + l) (length r) p in
        let e2 : c ≡ take (h * 256 + l) r = cc in
        let e3 : z ≡ at + 3 + (h * 256 + l) = cc in
        let m : length c ≡ h * 256 + l = ap length e2 ∙ omega (arith, length-take (h * 256 + l) r) in
        record { after = omega arith; within = omega (arith, ap length d, length-drop at b) }

    go : (r : List ℕ) → drop at b ≡ r → field_in at r ≡ field t c z → Extent b at c z
    go [] d f = never cc
    go (t' ∷ []) d f = never cc
    go (t' ∷ h ∷ []) d f = never cc
    go (t' ∷ h ∷ l ∷ r) d f = cut t' h l r (leb (h * 256 + l) (length r)) refl d f

-- and one that is read from bytes is written so
pub field-frame : (b : List ℕ) (at t : ℕ) (c : List ℕ) (z : ℕ) → Bytes b → field_at b at ≡ field t c z → drop at b ≡ frame t c ++ drop z b
unfolding field_at field_in
field-frame b at t c z v e = go (drop at b) refl (bytes_drop at b v) e
  where
    cut : (t' h l : ℕ) (r : List ℕ) (q : Bool) → leb (h * 256 + l) (length r) ≡ q → drop at b ≡ t' ∷ h ∷ l ∷ r → Bytes (t' ∷ h ∷ l ∷ r)
        → framed q t' (take (h * 256 + l) r) (at + 3 + (h * 256 + l)) ≡ field t c z → drop at b ≡ frame t c ++ drop z b
    cut t' h l r false p d w f = never cc
    cut t' h l r true p d w f =
        let n : h * 256 + l ≤ length r = leb-true (h * 256 + l) (length r) p in
        let e1 : t ≡ t' = cc in
        let e2 : c ≡ take (h * 256 + l) r = cc in
        let e3 : z ≡ at + 3 + (h * 256 + l) = cc in
        let e4 : at + 3 + (h * 256 + l) ≡ at + suc (suc (suc (h * 256 + l))) = omega arith in
        let m : length c ≡ h * 256 + l = ap length e2 ∙ omega (arith, length-take (h * 256 + l) r) in
        let j : drop z b ≡ drop (h * 256 + l) r =
        ap (λ (k : ℕ). drop k b) (e3 ∙ e4) ∙ (sym (drop-drop (suc (suc (suc (h * 256 + l)))) at b) ∙ ap (drop (suc (suc (suc (h * 256 + l))))) d) in
        d ∙ rw (m, high h l w.1.1.0, low h l w.1.1.0, e1, e2, j) (rw (take-append-drop (h * 256 + l) r) refl)

    go : (r : List ℕ) → drop at b ≡ r → Bytes r → field_in at r ≡ field t c z → drop at b ≡ frame t c ++ drop z b
    go [] d w f = never cc
    go (t' ∷ []) d w f = never cc
    go (t' ∷ h ∷ []) d w f = never cc
    go (t' ∷ h ∷ l ∷ r) d w f = cut t' h l r (leb (h * 256 + l) (length r)) refl d w f

pub take-field : (b : List ℕ) (at t : ℕ) (c : List ℕ) (z : ℕ) → Bytes b → field_at b at ≡ field t c z → take z b ≡ take at b ++ frame t c
take-field b at t c z v e =
    let w = field-extent b at t c z e in
    let n : z ≡ at + length (frame t c) = omega (arith, w.after) in
    ap (λ (k : ℕ). take k b) n ∙ (take-add at (length (frame t c)) b
    ∙ ap (λ (l : List ℕ). take at b ++ l) (ap (take (length (frame t c))) (field-frame b at t c z v e) ∙ take_at (frame t c) (drop z b) (length (frame t c)) refl))

-- its content is bytes
pub field-bytes : (b : List ℕ) (at t : ℕ) (c : List ℕ) (z : ℕ) → Bytes b → field_at b at ≡ field t c z → Bytes c
field-bytes b at t c z v e =
    let w : Bytes (frame t c ++ drop z b) = rw (field-frame b at t c z v e) at (bytes_drop at b v) in
    bytes_left c (drop z b) w.1.1.1

-- WRITTEN ONE BEHIND THE OTHER

pub spell-append : (is js : List Item) → spell (is ++ js) ≡ spell is ++ spell js
spell-append [] js = refl
spell-append (i ∷ is) js = ap (λ (l : List ℕ). frame (tag_of i) (content i) ++ l) (spell-append is js) ∙ sym (append_assoc (frame (tag_of i) (content i)) (spell is) (spell js))
