-- Texts put one behind the other. Assumes nothing.
use Prim.Native.Nat.{ℕ, zero, suc, ◌+◌, ◌-◌, ◌≤◌, ◌<◌, min}
use mathlib.Core.Path.{◌≡◌, refl, sym, ◌∙◌, ap}
use mathlib.Core.List.{List, [], ◌∷◌, ◌++◌}
use native.Mathlib.Nat.{add-zero}
use native.Mathlib.Decide.{dec_le}
use native.Mathlib.Omega.{arith}
use native.Mathlib.Numerals.{add-one}
use lib.ListN.{length, get_or, take, drop, set, replicate, length-replicate, length-append, length-take, length-drop, take-append-drop}
use lib.Seq.{drop-drop, take_all, take-nil, take-suc, take-append-le, set_split}
use borrow.Rule.Slice.PartMut.{put_mid}
use Rattle.std.proofs.lemmas.List.{take_min, take-replicate}
use Rattle.list_lines.specs.Appended.{written, Appended}
use Rattle.list_lines.proofs.Appending.{appended-more}
use Rattle.view_text.specs.Put.{fitting, Put}

-- the first n of two texts
take-both : (n : ℕ) (u v : List ℕ) → take n (u ++ v) ≡ take n u ++ take (n - length u) v
take-both n [] v = let e : n - 0 ≡ n = omega arith in rw (take-nil {A = ℕ} n, e)
take-both zero (x ∷ u) v = let e : 0 - suc (length u) ≡ 0 = omega arith in rw e
take-both (suc n) (x ∷ u) v =
    let e : suc n - suc (length u) ≡ n - length u = omega arith in
    rw e (ap (λ (r : List ℕ). x ∷ r) (take-both n u v))

-- nothing written
written_none : (b : List ℕ) (at : ℕ) → written b at [] ≡ b
unfolding written
written_none b at = rw add-zero (take-append-drop at b)

fitting-none : (b : List ℕ) (at : ℕ) → fitting b at [] ≡ []
unfolding fitting
fitting-none b at = take-nil {A = ℕ} (length b - at)

pub put-none : (b : List ℕ) (at : ℕ) → Put b b at at []
put-none b at =
    record {
      here = sym (ap (written b at) (fitting-none b at) ∙ written_none b at);
      stop = sym (ap (λ (l : List ℕ). at + length l) (fitting-none b at) ∙ add-zero at);
    }

-- a text of the same bytes
pub put_same : {b c : List ℕ} {at e : ℕ} {t u : List ℕ} → t ≡ u → Put b c at e t → Put b c at e u
put_same q p = rw (sym q) p

-- a buffer keeps its length
pub put-size : {b c : List ℕ} {at e : ℕ} {t : List ℕ} → Put b c at e t → length c ≡ length b
unfolding written fitting
put-size {b} {c} {at} {e} {t} p = ap length p.here ∙ simp (length-append, length-take, length-drop) (omega arith)

-- how much fits, and what fits of nothing
fitting-length : (b : List ℕ) (at : ℕ) (t : List ℕ) → length (fitting b at t) ≡ min (length b - at) (length t)
unfolding fitting
fitting-length b at t = length-take (length b - at) t

fitting-past : (b : List ℕ) (at : ℕ) (t : List ℕ) → length b ≤ at → fitting b at t ≡ []
unfolding fitting
fitting-past b at t h = let e : length b - at ≡ 0 = omega arith in rw e

-- nothing is put past the end
put-past : {b c : List ℕ} {at e : ℕ} {t : List ℕ} → Put b c at e t → length b ≤ at → c ≡ b
put-past {b} {c} {at} {e} {t} p h = p.here ∙ (ap (written b at) (fitting-past b at t h) ∙ written_none b at)

-- what fits of two texts is what fits of the first and then of the second: where the first is cut, nothing
fitting-both : {b c : List ℕ} {at m : ℕ} {u : List ℕ} (v : List ℕ) → Put b c at m u → fitting b at (u ++ v) ≡ fitting b at u ++ fitting c m v
unfolding fitting
fitting-both {b} {c} {at} {m} {u} v p =
    let k = fitting-length b at u in
    let e : length b - at - length u ≡ length c - m = omega (arith, k, p.stop, put-size p) in
    take-both (length b - at) u v ∙ ap (λ (n : ℕ). take (length b - at) u ++ take n v) e

-- a text put at a place of the buffer is an appended one
put-appended : {b c : List ℕ} {at e : ℕ} {t : List ℕ} → at ≤ length b → Put b c at e t → Appended b c at e (fitting b at t)
put-appended {b} {c} {at} {e} {t} h p =
    let k = fitting-length b at t in
    record { room = omega (arith, k); here = p.here; stop = p.stop; size = put-size p }

-- one behind the other is both together
pub put-more : {b c d : List ℕ} {at m e : ℕ} {u v : List ℕ} → Put b c at m u → Put c d m e v → Put b d at e (u ++ v)
put-more {b} {c} {d} {at} {m} {e} {u} {v} p q = go (dec_le at (length b))
  where
    both : fitting b at (u ++ v) ≡ fitting b at u ++ fitting c m v
    both = fitting-both v p

    k : length (fitting b at u) ≡ min (length b - at) (length u)
    k = fitting-length b at u

    go : Dec (at ≤ length b) → Put b d at e (u ++ v)
    go (yes h) =
        let a : Appended b d at e (fitting b at u ++ fitting c m v) =
        appended-more (put-appended h p) (put-appended (omega (arith, k, p.stop, put-size p)) q) in
        record { here = a.here ∙ ap (written b at) (sym both); stop = a.stop ∙ ap (λ (l : List ℕ). at + length l) (sym both) }
    go (no h) =
        let l : length b ≤ at = omega arith in
        let n : length c ≤ m = omega (arith, k, p.stop, put-size p) in
        let z = fitting-past b at (u ++ v) l in
        let s : m ≡ at = omega (arith, k, p.stop) in
        record {
          here = put-past q n ∙ (put-past p l ∙ sym (ap (written b at) z ∙ written_none b at));
          stop = q.stop ∙ (ap (λ (x : List ℕ). m + length x) (fitting-past c m v n) ∙ (add-zero m ∙ (s ∙ sym (ap (λ (x : List ℕ). at + length x) z ∙ add-zero at))));
        }

-- a byte that fits
pub byte-in : (b : List ℕ) (at x : ℕ) → at < length b → Put b (set b at x) at (at + 1) (x ∷ [])
unfolding fitting written
byte-in b at x h =
    let f : take (length b - at) (x ∷ []) ≡ x ∷ [] = take_all (length b - at) (x ∷ []) (let z : 1 ≤ length b - at = omega arith in z) in
    record {
      here = set_split b at x h ∙ (rw (f, add-one) refl);
      stop = sym (ap (λ (l : List ℕ). at + length l) f);
    }

-- a text of which the first n bytes are put over as many of the buffer: those that fit
pub part-in : {b r : List ℕ} (at n : ℕ) (t : List ℕ) → at < length b → n ≡ min (length t) (length b - at) → r ≡ take n t → Put b (put_mid at (at + n - at) b r) at (at + n) t
unfolding fitting written
part-in {b} {r} at n t h e p =
    let z : at + n - at ≡ n = omega arith in
    let m : n ≡ min (length b - at) (length t) = omega (arith, e) in
    let f : r ≡ take (length b - at) t = p ∙ rw m (take_min (length b - at) t) in
    let l : length (take (length b - at) t) ≡ n = length-take (length b - at) t ∙ sym m in
    record {
      here = rw (z, f, l) (ap (λ (x : List ℕ). take at b ++ (take (length b - at) t ++ x)) (drop-drop n at b));
      stop = ap (λ (x : ℕ). at + x) (sym l);
    }

-- a byte put over the next n of the buffer: as many of them as fit
pub fill-in : {b r : List ℕ} (at n g x : ℕ) → at < length b → n ≡ min g (length b - at) → r ≡ replicate (length (take (at + n - at) (drop at b))) x → Put b (put_mid at (at + n - at) b r) at (at + n) (replicate g x)
fill-in {b} {r} at n g x h e p =
    let l : length (take (at + n - at) (drop at b)) ≡ n = simp (length-take, length-drop) (omega (arith, e)) in
    let q : r ≡ take n (replicate g x) = p ∙ ap (λ (m : ℕ). replicate m x) l ∙ sym (take-replicate n g x (omega (arith, e))) in
    part-in at n (replicate g x) h (rw (length-replicate g x) e) q

-- nothing of a text is put past the end
pub none-in : (b : List ℕ) (at : ℕ) (t : List ℕ) → length b ≤ at → Put b b at at t
none-in b at t h =
    let f = fitting-past b at t h in
    record {
      here = sym (ap (written b at) f ∙ written_none b at);
      stop = sym (ap (λ (l : List ℕ). at + length l) f ∙ add-zero at);
    }

-- the loop over a text: its first byte, one more, all
pub text-more : {b c d : List ℕ} {at m e : ℕ} (t : List ℕ) (i : ℕ) → i < length t → Put b c at m (take i t) → Put c d m e (get_or t i 0 ∷ []) → Put b d at e (take (i + 1) t)
text-more t i h p q = put_same (sym (rw add-one (take-suc t i 0 h))) (put-more p q)

pub text-all : {b c : List ℕ} {at e : ℕ} (t : List ℕ) (i : ℕ) → length t ≤ i → Put b c at e (take i t) → Put b c at e t
text-all t i h p = put_same (take_all i t h) p

-- behind a text that was cut nothing stands, whatever was to follow
put-cut : {b c : List ℕ} {at e : ℕ} (t x y : List ℕ) → length b - at ≤ length t → Put b c at e (t ++ x) → Put b c at e (t ++ y)
unfolding fitting
put-cut {b} {c} {at} {e} t x y h p =
    let q : fitting b at (t ++ x) ≡ fitting b at (t ++ y) = rw (take-append-le, take-append-le) refl in
    record { here = p.here ∙ ap (written b at) q; stop = p.stop ∙ ap (λ (l : List ℕ). at + length l) q }

-- what follows may go by how far the line has come: by the length of its text, where that is not cut
pub put-from : {b c d : List ℕ} {at m e : ℕ} (f : ℕ → List ℕ) (t : List ℕ) → Put b c at m t → Put c d m e (f (m - at)) → Put b d at e (t ++ f (length t))
put-from {b} {c} {d} {at} {m} {e} f t p q = go (dec_le (length t) (length b - at))
  where
    k : length (fitting b at t) ≡ min (length b - at) (length t)
    k = fitting-length b at t

    go : Dec (length t ≤ length b - at) → Put b d at e (t ++ f (length t))
    go (yes h) =
        let z : m - at ≡ length t = omega (arith, k, p.stop) in
        put_same (ap (λ (n : ℕ). t ++ f n) z) (put-more p q)
    go (no h) = put-cut t (f (m - at)) (f (length t)) (omega arith) (put-more p q)
