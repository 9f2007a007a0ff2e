-- Checking as a loop over fields makes it: what holds at each turn, one law for each way on, and what checking can answer. Assumes nothing.
use mathlib.Core.Path.{◌≡◌, refl, sym, ◌∙◌, ap}
use mathlib.Core.Logic.{inl, inr}
use mathlib.Core.Bool.{Bool, true, false}
use mathlib.Core.List.{List}
use Prim.Native.Nat.{ℕ, zero, suc, ◌+◌, ◌≤◌, ◌<◌}
use native.Mathlib.Decide.{dec_le}
use native.Mathlib.Omega.{arith}
use lib.ListN.{length, take}
use lib.Dec.{eqb}
use borrow.Author.Tests.{eq-eqb, ne_eqb, le-leb, lt-leb}
use Rattle.rules.specs.Base.{ok, refuse, offset_at, nowhere}
use Rattle.rules.specs.Objects.{Object, counts_of}
use Rattle.rules.specs.Stored.{Item, fin, spell, State, begin, held, may, next, is_fin, broken, ended, judged, read_from, check, load}
use Rattle.laws_stored.specs.Beginnings.{AreBytes, ObjectOrFifty}
use Rattle.laws_stored.specs.Offsets.{next_at}
use Rattle.laws_stored.proofs.Framed.{all-bytes, field-over, field-short, field_cut}
use Rattle.laws_stored.proofs.Accepted.{Finds, Mute, Met, missing, halved, mute, finds, met, found-extent, read_none, read-over, read_short, read-mute, read-item}
use Rattle.laws_stored.proofs.Taken.{Along, along-begin, so_far, step}
use Rattle.laws_stored.proofs.Kept.{Kept, kept-begin, kept}
use Rattle.laws_stored.proofs.First.{taken-bytes}

-- as many turns as there are bytes left are enough
read-enough : (b : List ℕ) (k j : ℕ) (s : State) (at : ℕ) → length b ≤ at + k → length b ≤ at + j → read_from b k s at ≡ read_from b j s at
read-enough b zero j s at p q = read_none b s at ∙ sym (read-over b j s at (field-over b at (omega arith)))
read-enough b (suc k) zero s at p q = read-over b (suc k) s at (field-over b at (omega arith)) ∙ sym (read_none b s at)
read-enough b (suc k) (suc j) s at p q = go (met b at) (λ n z. read-enough b k j n z)
  where
    go : Met b at → ((n : State) (z : ℕ) → length b ≤ z + k → length b ≤ z + j → read_from b k n z ≡ read_from b j n z) → read_from b (suc k) s at ≡ read_from b (suc j) s at
    go (missing d) h = read-over b (suc k) s at d ∙ sym (read-over b (suc j) s at d)
    go (halved d) h = read_short b (suc k) s at d ∙ sym (read_short b (suc j) s at d)
    go (mute d) h = read-mute b (suc k) s at d ∙ sym (read-mute b (suc j) s at d)
    go (finds i z d) h =
        let x = found-extent b at i z d in
        read-item b k s at i z d
        ∙ (ap (judged (may s i) (is_fin i) (broken at) (ended (eqb z (length b)) s z)) (h (next s i) z (omega (arith, x.after)) (omega (arith, x.after)))
        ∙ sym (read-item b j s at i z d))

-- AT EACH TURN: the state is that of the fields up to the position, and checking goes on from there.
pub record Checks (b : List ℕ) (s : State) (at : ℕ) : Type 0 where
  pub bytes : AreBytes b
  pub within : at ≤ length b
  pub along : Along s
  pub kept : Kept s
  pub spelled : take at b ≡ spell (so_far s)
  pub same : check b ≡ read_from b (length b) s at

pub checks-start : (b : List ℕ) → AreBytes b → Checks b begin 0
unfolding check
checks-start b h = record { bytes = h; within = omega arith; along = along-begin; kept = kept-begin; spelled = refl; same = refl }

-- one turn more
turn : (b : List ℕ) (s : State) (at : ℕ) (i : Item) (z : ℕ) → Checks b s at → Finds b at i z
    → check b ≡ judged (may s i) (is_fin i) (broken at) (ended (eqb z (length b)) s z) (read_from b (length b) (next s i) z)
turn b s at i z c d = c.same ∙ (read-enough b (length b) (suc (length b)) s at (omega arith) (omega arith) ∙ read-item b (length b) s at i z d)

-- a field that may follow
pub checks-more : (b : List ℕ) (s : State) (at : ℕ) (i : Item) (z : ℕ) → Checks b s at → Finds b at i z → may s i ≡ true → is_fin i ≡ false → Checks b (next s i) z
checks-more b s at i z c d m f =
    let t = step s i c.along f m in
    record {
      bytes = c.bytes;
      within = (found-extent b at i z d).within;
      along = t.along;
      kept = kept s i c.along c.kept m;
      spelled = taken-bytes b s at i z (all-bytes b c.bytes) d c.spelled ∙ ap spell (sym t.same);
      same = turn b s at i z c d ∙ rw (m, f) refl;
    }

-- a field that may not
pub checks-not : (b : List ℕ) (s : State) (at : ℕ) (i : Item) (z : ℕ) → Checks b s at → Finds b at i z → may s i ≡ false → check b ≡ refuse 50 (offset_at at)
checks-not b s at i z c d m = turn b s at i z c d ∙ rw m refl

-- a field that says nothing: other tags, content of another length
pub checks-mute : (b : List ℕ) (s : State) (at : ℕ) → Checks b s at → Mute b at → check b ≡ refuse 50 (offset_at at)
checks-mute b s at c d = c.same ∙ read-mute b (length b) s at d

-- x00 is missing, or tag and length are cut short
pub checks-short : (b : List ℕ) (s : State) (at : ℕ) → Checks b s at → length b < at + 3 → check b ≡ refuse 50 (offset_at at)
checks-short b s at c l = go (dec_le (length b) at)
  where
    go : Dec (length b ≤ at) → check b ≡ refuse 50 (offset_at at)
    go (yes h) = c.same ∙ read-over b (length b) s at (field-over b at h)
    go (no h) = c.same ∙ read_short b (length b) s at (field-short b at (omega arith) l)

-- the content is cut short
pub checks-cut : (b : List ℕ) (s : State) (at : ℕ) → Checks b s at → at + 3 ≤ length b → length b < next_at b at → check b ≡ refuse 50 (offset_at at)
checks-cut b s at c p q = c.same ∙ read_short b (length b) s at (field_cut b at p q)

-- x00 ends the bytes
pub checks-end : (b : List ℕ) (s : State) (at z : ℕ) → Checks b s at → Finds b at fin z → may s fin ≡ true → z ≡ length b → check b ≡ ok (held s)
checks-end b s at z c d m e = turn b s at fin z c d ∙ rw (m, eq-eqb z (length b) e) refl

-- bytes after the end
pub checks-behind : (b : List ℕ) (s : State) (at z : ℕ) → Checks b s at → Finds b at fin z → may s fin ≡ true → z < length b → check b ≡ refuse 50 (offset_at z)
checks-behind b s at z c d m l = turn b s at fin z c d ∙ rw (m, ne_eqb z (length b) (λ e. omega arith)) refl

-- WHAT CHECKING CAN ANSWER: an object, or 50 at an offset that is not above the length

read-answers : (b : List ℕ) (k : ℕ) (s : State) (at : ℕ) → at ≤ length b → ObjectOrFifty b (read_from b k s at)
read-answers b zero s at l = inr (at, l, read_none b s at)
read-answers b (suc k) s at l = go (met b at) (λ n z. read-answers b k n z)
  where
    on : (i : Item) (z : ℕ) → z ≤ length b → (m f x : Bool) → (z ≤ length b → ObjectOrFifty b (read_from b k (next s i) z)) → ObjectOrFifty b (judged m f (broken at) (ended x s z) (read_from b k (next s i) z))
    on i z w false f x h = inr (at, l, refl)
    on i z w true true true h = inl (held s, refl)
    on i z w true true false h = inr (z, w, refl)
    on i z w true false x h = h w

    go : Met b at → ((n : State) (z : ℕ) → z ≤ length b → ObjectOrFifty b (read_from b k n z)) → ObjectOrFifty b (read_from b (suc k) s at)
    go (missing d) h = inr (at, l, read-over b (suc k) s at d)
    go (halved d) h = inr (at, l, read_short b (suc k) s at d)
    go (mute d) h = inr (at, l, read-mute b (suc k) s at d)
    go (finds i z d) h = rw (read-item b k s at i z d) (on i z (found-extent b at i z d).within (may s i) (is_fin i) (eqb z (length b)) (h (next s i) z))

pub check-answers : (b : List ℕ) → ObjectOrFifty b (check b)
unfolding check
check-answers b = read-answers b (length b) begin 0 (omega arith)

-- LOADING refuses with 50 as checking does, then 41.

pub load-fifty : (room : ℕ) (b : List ℕ) (i : ℕ) → check b ≡ refuse 50 (offset_at i) → load room b ≡ refuse 50 (offset_at i)
unfolding load
load-fifty room b i e = rw e refl

pub load-whole : (room : ℕ) (b : List ℕ) (o : Object) → check b ≡ ok o → (counts_of o).words ≤ room → load room b ≡ ok o
unfolding load
load-whole room b o e l = rw e (rw (le-leb (counts_of o).words room l) refl)

pub load-no-room : (room : ℕ) (b : List ℕ) (o : Object) → check b ≡ ok o → room < (counts_of o).words → load room b ≡ refuse 41 nowhere
unfolding load
load-no-room room b o e l = rw e (rw (lt-leb (counts_of o).words room l) refl)
