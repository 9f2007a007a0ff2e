-- A label's text is what stands at its place. Assumes nothing.
use mathlib.Core.Path.{◌≡◌, refl, sym, ◌∙◌, ap}
use mathlib.Core.Bool.{Bool, true, false}
use mathlib.Core.Option.{Option, none, some}
use mathlib.Core.List.{List, ◌∷◌}
use Prim.Native.Nat.{ℕ, ◌+◌, ◌-◌, ◌≤◌, ◌<◌}
use native.Mathlib.Nat.{add-sub_cancel_left}
use native.Mathlib.Numerals.{add-one}
use native.Mathlib.Omega.{arith}
use lib.Dec.{leb}
use lib.ListN.{length, take, drop, get_or, length-drop, length-map}
use lib.Seq.{drop-cons, length-take-le}
use borrow.Author.Tests.{leb-true}
use Rattle.rules.specs.Base.{when◌then◌else◌, Outcome, ok, refused, Span, span}
use Rattle.rules.specs.Tokens.{Kind, number, register, mark, word, directive, text, Token, token, match, token_at, upper, next_token}
use Rattle.rules.specs.Words.{Row, find, instructions}
use Rattle.rules.specs.Statements.{Name, as_word, as_label, as_name, name_at}
use Rattle.rules.specs.Objects.{good_name}
use Rattle.rules.proofs.Next.{next-induction}
use Rattle.rules.proofs.Shown.{Tells}
use Rattle.rules.proofs.GoodNames.{word_good}
use Rattle.rules.proofs.Bools.{never}
use Rattle.parse_labels.specs.Names.{name_from}

-- a text that stands at its place
pub record Standing (s : List ℕ) (t : List ℕ) (p : Span) : Type 0 where
  pub rising : p.start ≤ p.stop
  pub within : p.stop ≤ length s
  pub same : t ≡ name_from s p.start (p.stop - p.start)

-- a word that is a label's is a name that an object may have
pub record Spelled (s w : List ℕ) (p : Span) : Type 0 where
  pub stands : Standing s w p
  pub good : find w instructions ≡ none → length w ≤ 64 → good_name w ≡ true

abbrev Worded : List ℕ → Kind → Span → Type 0
Worded s (word w) p = Spelled s w p
Worded s (number x) p = Unit {0}
Worded s (register x) p = Unit {0}
Worded s (mark c) p = Unit {0}
Worded s (directive w) p = Unit {0}
Worded s (text t) p = Unit {0}

abbrev Words : List ℕ → Outcome Token → Type 0
Words s (ok t) = Worded s t.kind t.place
Words s (refused r) = Unit {0}

at-token : (s : List ℕ) (i n : ℕ) (k : Kind) → token_at (get_or s i 0) (drop (i + 1) s) ≡ match (token k) n → i < length s → i + n ≤ length s → Tells (get_or s i 0 ∷ drop (i + 1) s) n k → Worded s k (span i (i + n))
at-token s i n (word w) e h u t = record {
  stands = record { rising = omega arith; within = u; same = t ∙ sym (rw (add-sub_cancel_left, drop-cons s i 0, ← add-one i)) };
  good = word_good (get_or s i 0) (drop (i + 1) s) w n e;
}
at-token s i n (number x) e h u t = tt
at-token s i n (register x) e h u t = tt
at-token s i n (mark c) e h u t = tt
at-token s i n (directive w) e h u t = tt
at-token s i n (text x) e h u t = tt

words : (s : List ℕ) (i : ℕ) → Words s (next_token s i)
words s = next-induction s (λ i o. Words s o) (λ i h. tt) (λ i n k h e l u w. at-token s i n k e h u w) (λ i n m h e l u. tt) (λ i n h e l u q. q)

-- a label: its text stands at its place, and is at most 64 bytes long
pub record Labels (s : List ℕ) (m : Name) : Type 0 where
  pub stands : Standing s m.text m.place
  pub small : m.place.stop - m.place.start ≤ 64
  pub good : good_name m.text ≡ true

long : (s t : List ℕ) (p : Span) → Standing s t p → length t ≡ p.stop - p.start
long s t p h = ap length h.same ∙ (length-map (take (p.stop - p.start) (drop p.start s)) upper ∙ length-take-le (p.stop - p.start) (drop p.start s) (omega (arith, h.within, length-drop p.start s)))

labelled : (s : List ℕ) (k : Kind) (p : Span) (m : Name) → Worded s k p → as_name k p ≡ some m → Labels s m
unfolding as_name as_label as_word when◌then◌else◌
labelled s (word w) p m h e = go (find w instructions) refl e
  where
    sized : find w instructions ≡ none → (b : Bool) → leb (length w) 64 ≡ b → ◌≡◌ {A = Option Name} (when b then some (record { text = w; place = p }) else none) (some m) → Labels s m
    sized f true q z =
        let y : record { text = w; place = p } ≡ m = cc in
        let l = leb-true (length w) 64 q in
        let v : Labels s (record { text = w; place = p }) = record { stands = h.stands; small = omega (arith, l, long s w p h.stands); good = h.good f l } in
        rw y at v
    sized f false q z = never cc

    go : (o : Option Row) → find w instructions ≡ o → ◌≡◌ {A = Option Name} (elim (elim o as (λ x. Option (List ℕ)) [ none ↦ some w | some r ↦ none ]) [ none ↦ none | some t ↦ when leb (length t) 64 then some (record { text = t; place = p }) else none ]) (some m) → Labels s m
    go none f z = sized f (leb (length w) 64) refl z
    go (some r) f z = never cc
labelled s (number x) p m h e = never cc
labelled s (register x) p m h e = never cc
labelled s (mark c) p m h e = never cc
labelled s (directive w) p m h e = never cc
labelled s (text t) p m h e = never cc

pub name-stands : (s : List ℕ) (i : ℕ) (m : Name) → name_at s i ≡ some m → Labels s m
unfolding name_at
name-stands s i m e = go (next_token s i) (words s i) e
  where
    go : (o : Outcome Token) → Words s o → ◌≡◌ {A = Option Name} (elim o [ ok t ↦ as_name t.kind t.place | refused r ↦ none ]) (some m) → Labels s m
    go (ok t) w z = labelled s t.kind t.place m w z
    go (refused r) w z = never cc
