-- 50 at the first field that breaks the form or is cut short, at the end of the bytes if x00 is missing: what stands before it begins a stored object, and with that field nothing does. Assumes nothing.
use mathlib.Core.Path.{◌≡◌, refl, sym, ◌∙◌, ap}
use mathlib.Core.Bool.{Bool, true, false}
use mathlib.Core.List.{List, [], ◌∷◌, ◌++◌, append_assoc, append-nil}
use Prim.Native.Nat.{ℕ, zero, suc, ◌+◌, ◌≤◌}
use native.Mathlib.Omega.{arith}
use lib.ListN.{length, take, drop, length-append, length-take, take-append-drop}
use lib.Seq.{take-take}
use lib.Dec.{eqb}
use borrow.Author.Tests.{eqb-false, ne_eqb}
use Rattle.rules.specs.Base.{ok, Refusal, refuse, offset_at, nowhere}
use Rattle.rules.specs.Stored.{Item, content, frame, spell, over, cut_short, field, field_at, State, begin, held, may, next, is_fin, broken, ended, judged, read_from, check}
use Rattle.rules.proofs.Bools.{never}
use Rattle.laws_stored.specs.Beginnings.{AreBytes, BeginsStored, FirstBreak}
use Rattle.laws_stored.proofs.Framed.{Bytes, all-bytes, bytes_take, bytes-right, field-over, field-written, field-extent, take-field, spell-append}
use Rattle.laws_stored.proofs.Accepted as M
use Rattle.laws_stored.proofs.Accepted.{accept, Finds, Mute, Met, met, found-extent, found-taken, read_none, read-over, read_short, read-mute, read-item}
use Rattle.laws_stored.proofs.Taken.{Along, along-begin, so_far, step}
use Rattle.laws_stored.proofs.Kept.{Kept, kept-begin, kept}
use Rattle.laws_stored.proofs.Completed.{complete, begins}
use Rattle.laws_stored.proofs.Promised.{stored-checks}

-- HOW CHECKING COMES TO A REFUSAL

-- the field there is not taken: there is none, it is cut short, it says nothing, or it may not follow
pub data Breaks (b : List ℕ) (s : State) (at : ℕ) : Type 0 where
  missing : field_at b at ≡ over → Breaks b s at
  halved : field_at b at ≡ cut_short → Breaks b s at
  mute : Mute b at → Breaks b s at
  misplaced : (i : Item) (z : ℕ) → Finds b at i z → may s i ≡ false → Breaks b s at

-- from a position on: the field there breaks the form; x00 is taken and there are bytes behind it; or it is taken, and a later one breaks the form
pub data Stops (b : List ℕ) (i : ℕ) : State → ℕ → Type 0 where
  breaks : {s : State} → Breaks b s i → Stops b i s i
  behind : {s : State} {at : ℕ} (j : Item) → Finds b at j i → may s j ≡ true → is_fin j ≡ true → (i ≡ length b → ⊥) → Stops b i s at
  later : {s : State} {at : ℕ} (j : Item) (z : ℕ) → Finds b at j z → may s j ≡ true → is_fin j ≡ false → Stops b i (next s j) z → Stops b i s at

place : (i j : ℕ) → broken i ≡ broken j → i ≡ j
place i j e =
    let q : ◌≡◌ {A = Refusal} (record { number = 50; first = offset_at i; second = nowhere }) (record { number = 50; first = offset_at j; second = nowhere }) = cc in
    ap (λ (r : Refusal). r.first.start) q

breaks-at : (b : List ℕ) (s : State) (at i : ℕ) → broken at ≡ broken i → Breaks b s at → Stops b i s at
breaks-at b s at i e w = let q : at ≡ i = place at i e in rw q (breaks (rw q at w))

at_item : (b : List ℕ) (k : ℕ) (s : State) (at i : ℕ) (j : Item) (z : ℕ) → Finds b at j z
    → (m : Bool) → may s j ≡ m → (f : Bool) → is_fin j ≡ f → (x : Bool) → eqb z (length b) ≡ x
    → judged m f (broken at) (ended x s z) (read_from b k (next s j) z) ≡ broken i
    → (read_from b k (next s j) z ≡ broken i → Stops b i (next s j) z) → Stops b i s at
at_item b k s at i j z d false m f g x y a h = breaks-at b s at i a (misplaced j z d m)
at_item b k s at i j z d true m true g true y a h = never cc
at_item b k s at i j z d true m true g false y a h = let q : z ≡ i = place z i a in behind j (rw q at d) m g (rw q at (eqb-false z (length b) y))
at_item b k s at i j z d true m false g x y a h = later j z d m g (h a)

pub refusal-stops : (b : List ℕ) (k : ℕ) (s : State) (at i : ℕ) → length b ≤ at + k → read_from b k s at ≡ broken i → Stops b i s at
refusal-stops b zero s at i l e = breaks-at b s at i (sym (read_none b s at) ∙ e) (missing (field-over b at (omega arith)))
refusal-stops b (suc k) s at i l e = go (met b at) (λ n z m. refusal-stops b k n z i m)
  where
    go : Met b at → ((n : State) (y : ℕ) → length b ≤ y + k → read_from b k n y ≡ broken i → Stops b i n y) → Stops b i s at
    go (M.missing d) h = breaks-at b s at i (sym (read-over b (suc k) s at d) ∙ e) (missing d)
    go (M.halved d) h = breaks-at b s at i (sym (read_short b (suc k) s at d) ∙ e) (halved d)
    go (M.mute d) h = breaks-at b s at i (sym (read-mute b (suc k) s at d) ∙ e) (mute d)
    go (M.finds j z d) h =
        at_item b k s at i j z d (may s j) refl (is_fin j) refl (eqb z (length b)) refl (sym (read-item b k s at j z d) ∙ e)
        (h (next s j) z (omega (arith, (found-extent b at j z d).after)))

-- and whatever stops so is refused there
stops-refusal_at : (b : List ℕ) (i : ℕ) (k : ℕ) (s : State) (at : ℕ) → length b ≤ at + k → Stops b i s at → read_from b k s at ≡ broken i
stops-refusal_at b i k s at l (breaks (missing d)) = read-over b k s i d
stops-refusal_at b i k s at l (breaks (halved d)) = read_short b k s i d
stops-refusal_at b i k s at l (breaks (mute d)) = read-mute b k s i d
stops-refusal_at b i zero s at l (breaks (misplaced j z d m)) = read_none b s i
stops-refusal_at b i (suc k) s at l (breaks (misplaced j z d m)) = read-item b k s i j z d ∙ rw m refl
stops-refusal_at b i zero s at l (behind j d m f n) = let x = found-extent b at j i d in absurd (omega (arith, x.after, x.within))
stops-refusal_at b i (suc k) s at l (behind j d m f n) = read-item b k s at j i d ∙ rw (m, f, ne_eqb i (length b) n) refl
stops-refusal_at b i zero s at l (later j z d m f h) = let x = found-extent b at j z d in absurd (omega (arith, x.after, x.within))
stops-refusal_at b i (suc k) s at l (later j z d m f h) =
    let x = found-extent b at j z d in
    read-item b k s at j z d ∙ (rw (m, f) (stops-refusal_at b i k (next s j) z (omega (arith, x.after)) h))

pub stops-refusal : (b : List ℕ) (k : ℕ) (s : State) (at i : ℕ) → length b ≤ at + k → Stops b i s at → read_from b k s at ≡ broken i
stops-refusal b k s at i = stops-refusal_at b i k s at

-- it goes forward
stops-forward_at : (b : List ℕ) (i : ℕ) (s : State) (at : ℕ) → Stops b i s at → at ≤ i
stops-forward_at b i s at (breaks w) = omega arith
stops-forward_at b i s at (behind j d m f n) = omega (arith, (found-extent b at j i d).after)
stops-forward_at b i s at (later j z d m f h) = omega (arith, (found-extent b at j z d).after, stops-forward_at b i (next s j) z h)

stops-forward : (b : List ℕ) (s : State) (at i : ℕ) → Stops b i s at → at ≤ i
stops-forward b s at i = stops-forward_at b i s at

-- WHAT STANDS BEFORE BEGINS A STORED OBJECT

-- one more field taken
pub taken-bytes : (b : List ℕ) (s : State) (at : ℕ) (j : Item) (z : ℕ) → Bytes b → Finds b at j z → take at b ≡ spell (so_far s) → take z b ≡ spell (so_far s ++ (j ∷ []))
taken-bytes b s at j z v d e = found-taken b at j z v d ∙ rw (e, spell-append (so_far s) (j ∷ []), append-nil (content j)) refl

stops-begins_at : (b : List ℕ) (i : ℕ) (s : State) (at : ℕ) → Bytes b → Along s → Kept s → take at b ≡ spell (so_far s) → Stops b i s at → BeginsStored (take i b)
unfolding accept
stops-begins_at b i s at v a k e (breaks w) = begins (take i b) s (bytes_take i b v) a k e
stops-begins_at b i s at v a k e (behind j d m f n) =
    let x = taken-bytes b s at j i v d e in
    let y : take i b ≡ take at b ++ spell (j ∷ []) = x ∙ (spell-append (so_far s) (j ∷ []) ∙ ap (λ (l : List ℕ). l ++ spell (j ∷ [])) (sym e)) in
    let c = complete (take at b) s (j ∷ []) (held s) (bytes_take at b v) a k e (rw (m, f) refl) (bytes-right (take at b) (spell (j ∷ [])) (rw y at (bytes_take i b v))) in
    (held s, [], c.good, c.same ∙ (sym y ∙ sym (append-nil (take i b))))
stops-begins_at b i s at v a k e (later j z d m f h) =
    let t = step s j a f m in
    stops-begins_at b i (next s j) z v t.along (kept s j a k m) (taken-bytes b s at j z v d e ∙ ap spell (sym t.same)) h

stops-begins : (b : List ℕ) (s : State) (at i : ℕ) → Bytes b → Along s → Kept s → take at b ≡ spell (so_far s) → Stops b i s at → BeginsStored (take i b)
stops-begins b s at i = stops-begins_at b i s at

-- WITH THE FIELD THAT STANDS THERE NOTHING DOES

-- a field whose bytes are there is read, whatever comes after them
field-again : (b rest : List ℕ) (at t : ℕ) (c : List ℕ) (y z : ℕ) → Bytes b → field_at b at ≡ field t c y → y ≤ z → field_at (take z b ++ rest) at ≡ field t c y
field-again b rest at t c y z v d l =
    let w = field-extent b at t c y d in
    let tail = drop y (take z b) ++ rest in
    let n : length (take at b) ≡ at = omega (arith, length-take at b, w.after, w.within) in
    let split : take z b ++ rest ≡ take at b ++ (frame t c ++ tail) =
    ap (λ (u : List ℕ). u ++ rest) (sym (take-append-drop y (take z b)) ∙ ap (λ (u : List ℕ). u ++ drop y (take z b)) (take-take y z b l ∙ take-field b at t c y v d))
    ∙ (append_assoc (take at b ++ frame t c) (drop y (take z b)) rest ∙ append_assoc (take at b) (frame t c) tail) in
    let r = field-written (take at b) t c tail in
    ap (λ (u : List ℕ). field_at u at) split ∙ (rw (n, ← w.after) at r)

found-again : (b rest : List ℕ) (at : ℕ) (j : Item) (y z : ℕ) → Bytes b → y ≤ z → Finds b at j y → Finds (take z b ++ rest) at j y
found-again b rest at j y z v l d = record { tag = d.tag; body = d.body; there = field-again b rest at d.tag d.body y z v d.there l; says = d.says }

breaks-again : (b rest : List ℕ) (s : State) (i t : ℕ) (c : List ℕ) (z : ℕ) → Bytes b → field_at b i ≡ field t c z → Breaks b s i → Breaks (take z b ++ rest) s i
breaks-again b rest s i t c z v d (missing e) = never cc
breaks-again b rest s i t c z v d (halved e) = never cc
breaks-again b rest s i t c z v d (mute m) =
    let f : field t c z ≡ field m.tag m.body m.after = sym d ∙ m.there in
    let q : z ≡ m.after = cc in
    mute (record { tag = m.tag; body = m.body; after = m.after; there = field-again b rest i m.tag m.body m.after z v m.there (omega arith); says = m.says })
breaks-again b rest s i t c z v d (misplaced j y w m) =
    let f : field t c z ≡ field w.tag w.body y = sym d ∙ w.there in
    let q : z ≡ y = cc in
    misplaced j y (found-again b rest i j y z v (omega arith) w) m

stops-again_at : (b : List ℕ) (rest : List ℕ) (i : ℕ) (s : State) (at : ℕ) (t : ℕ) (c : List ℕ) (z : ℕ) → Bytes b → field_at b i ≡ field t c z → Stops b i s at → Stops (take z b ++ rest) i s at
stops-again_at b rest i s at t c z v d (breaks w) = breaks (breaks-again b rest s i t c z v d w)
stops-again_at b rest i s at t c z v d (behind j w m f n) =
    let x = field-extent b i t c z d in
    behind j (found-again b rest at j i z v (omega (arith, x.after)) w) m f (λ e. omega (arith, x.after, x.within, length-append (take z b) rest, length-take z b))
stops-again_at b rest i s at t c z v d (later j y w m f h) =
    let x = field-extent b i t c z d in
    later j y (found-again b rest at j y z v (omega (arith, x.after, stops-forward b (next s j) y i h)) w) m f (stops-again_at b rest i (next s j) y t c z v d h)

stops-again : (b rest : List ℕ) (s : State) (at i t : ℕ) (c : List ℕ) (z : ℕ) → Bytes b → field_at b i ≡ field t c z → Stops b i s at → Stops (take z b ++ rest) i s at
stops-again b rest s at i t c z = stops-again_at b rest i s at t c z

-- Bytes are refused at a field for what stands up to its end, whatever comes after it.
pub refused-early : (b rest : List ℕ) (i t : ℕ) (c : List ℕ) (z : ℕ) → Bytes b → check b ≡ refuse 50 (offset_at i) → field_at b i ≡ field t c z → check (take z b ++ rest) ≡ refuse 50 (offset_at i)
unfolding check
refused-early b rest i t c z v e d =
    stops-refusal (take z b ++ rest) (length (take z b ++ rest)) begin 0 i (omega arith)
    (stops-again b rest begin 0 i t c z v d (refusal-stops b (length b) begin 0 i (omega arith) e))

-- THE PROMISE

shorter : (b : List ℕ) (i j : ℕ) → j ≤ i → BeginsStored (take i b) → BeginsStored (take j b)
shorter b i j l w = (
  w.0,
  drop j (take i b) ++ w.1,
  w.2,
  w.3 ∙ (ap (λ (u : List ℕ). u ++ w.1) (sym (take-append-drop j (take i b)) ∙ ap (λ (u : List ℕ). u ++ drop j (take i b)) (take-take j i b l))
      ∙ append_assoc (take j b) (drop j (take i b)) w.1),
)

-- 50 at the first field that breaks this or is cut short, at the end of the bytes if x00 is missing.
pub fifty-first : (b : List ℕ) (i : ℕ) → AreBytes b → check b ≡ refuse 50 (offset_at i) → FirstBreak b i
unfolding check
fifty-first b i h e = record {
  before = λ j l. shorter b i j l (stops-begins b begin 0 i v along-begin kept-begin refl (refusal-stops b (length b) begin 0 i (omega arith) e));
  here = λ t c z d w. clash t c z d w;
}
  where
    v : Bytes b
    v = all-bytes b h

    clash : (t : ℕ) (c : List ℕ) (z : ℕ) → field_at b i ≡ field t c z → BeginsStored (take z b) → ⊥
    clash t c z d w =
        let x : refuse 50 (offset_at i) ≡ ok w.0 = sym (refused-early b w.1 i t c z v e d) ∙ (ap check (sym w.3) ∙ stored-checks w.0 w.2) in
        never cc
