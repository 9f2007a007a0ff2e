-- Bytes of digits, bytes and texts written one behind the other. Assumes nothing.
use Prim.Native.Nat.{ℕ, zero, suc, ◌+◌, ◌-◌, ◌≤◌, ◌<◌, min}
use mathlib.Core.Path.{◌≡◌, refl, sym, ◌∙◌, ap}
use mathlib.Core.List.{List, [], ◌∷◌, ◌++◌, append_assoc, append-nil}
use native.Mathlib.Numerals.{add-one}
use native.Mathlib.Omega.{arith}
use lib.ListN.{length, get_or, take, drop, replicate}
use borrow.Rule.Slice.PartMut.{put_mid}
use Rattle.view_text.specs.Put.{Put}
use Rattle.view_text.proofs.Putting.{put-none, put_same, put-size, put-more, fill-in}
use Rattle.test_support.specs.declared.Taken.{Taken}
use Rattle.test_support.specs.declared.Part.{Part}
use Rattle.test_support.specs.Fields.{between, decimal_at, part_at}
use Rattle.test_support.specs.Sources.{pair, unhexed, copies, repeated, source_at, bytes_in, source_text, WroteSource}
use Rattle.test_support.proofs.Reading.{pair-next, pair-none}

-- PAIRS OF DIGITS: the rest of the digits goes on with what is written
pub record Unhexing (d b c : List ℕ) (at end : ℕ) (rest : List ℕ) (size : ℕ) : Type 0 where
  pub two : size ≡ 2
  pub done : List ℕ
  pub put : Put b c at end done
  pub same : done ++ unhexed rest ≡ unhexed d

pub unhexing-start : (d b : List ℕ) (at : ℕ) {r : List ℕ} {s : ℕ} → r ≡ d → s ≡ 2 → Unhexing d b b at at r s
unhexing-start d b at e f = record { two = f; done = []; put = put-none b at; same = ap unhexed e }

module _ {d b c : List ℕ} {at m s : ℕ} {r : List ℕ} (u : Unhexing d b c at m r s) where
  pub unhexing-more : (x : List ℕ) {f o : List ℕ} {e v n : ℕ} → r ≡ x ++ o → length x ≡ s → n ≡ s → v ≡ pair (get_or x 0 0) (get_or x 1 0) → Put c f m e (v ∷ []) → Unhexing d b f at e o n
  unhexing-more x {f} {o} {e} {v} h l z q p = record {
    two = z ∙ u.two;
    done = u.done ++ (v ∷ []);
    put = put-more u.put p;
    same = append_assoc u.done (v ∷ []) (unhexed o) ∙ (ap (λ (k : List ℕ). u.done ++ k) (rw (q, h) (sym (pair-next x o (l ∙ u.two)))) ∙ u.same);
  }

  pub unhexing-size : length c ≡ length b
  unhexing-size = put-size u.put

  pub unhexing-all : length r < s → Put b c at m (unhexed d)
  unhexing-all h = put_same (sym (append-nil u.done) ∙ (ap (λ (l : List ℕ). u.done ++ l) (sym (pair-none r (rw u.two at h))) ∙ u.same)) u.put

-- A BYTE, so many times
pub copies-in : {b r : List ℕ} (at n g x : ℕ) → at < length b → n ≡ min g (length b - at) → r ≡ replicate (length (take (at + n - at) (drop at b))) x → Put b (put_mid at (at + n - at) b r) at (at + n) (copies g x)
unfolding copies
copies-in at n g x h e p = fill-in at n g x h e p

-- A TEXT, i times of n
repeated-more : (i : ℕ) (t : List ℕ) → repeated i t ++ t ≡ repeated (suc i) t
unfolding repeated
repeated-more zero t = sym (append-nil t)
repeated-more (suc i) t = append_assoc t (repeated i t) t ∙ ap (λ (l : List ℕ). t ++ l) (repeated-more i t)

pub record Repeating (n : ℕ) (t b c : List ℕ) (at end i : ℕ) : Type 0 where
  pub within : i ≤ n
  pub put : Put b c at end (repeated i t)

pub repeating-start : (n : ℕ) (t b : List ℕ) (at : ℕ) → Repeating n t b b at at 0
unfolding repeated
repeating-start n t b at = record { within = omega arith; put = put-none b at }

module _ {n : ℕ} {t b c : List ℕ} {at m i : ℕ} (u : Repeating n t b c at m i) where
  pub repeating-more : {f : List ℕ} {e : ℕ} → i < n → Put c f m e t → Repeating n t b f at e (i + 1)
  repeating-more h p = record { within = omega arith; put = put_same (rw add-one (repeated-more i t)) (put-more u.put p) }

  pub repeating-size : length c ≡ length b
  repeating-size = put-size u.put

  pub repeating-all : n ≤ i → Put b c at m (repeated n t)
  repeating-all h = let e : i ≡ n = omega (arith, u.within) in put_same (ap (λ (k : ℕ). repeated k t) e) u.put

-- A SOURCE
pub source-wrote :
    (s : List ℕ) (at : ℕ) (h u : Part) (n : Taken) (t : Part) → h ≡ part_at s at → u ≡ part_at s h.next → n ≡ decimal_at s u.next → t ≡ part_at s n.next
    → {x y z : List ℕ} → x ≡ between s h.start h.stop → y ≡ between s u.start u.stop → z ≡ between s t.start t.stop
    → {b c d e : List ℕ} {one two three : ℕ} → Put b c 0 one (unhexed x) → Put c d one two (repeated n.value (unhexed y)) → Put d e two three (unhexed z)
    → WroteSource s at b e (record { value = three; next = t.next })
unfolding source_text source_at bytes_in
source-wrote s at h u n t p q r v {x} {y} {z} f g k a b c =
    record { put = put_same (rw (f, g, k, v, r, q, p) refl) (put-more (put-more a b) c); next = rw (v, r, q, p) refl }
