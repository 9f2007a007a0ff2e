-- Names are in the order of their keys, where these differ. Assumes nothing.
use Prim.Native.Nat.{ℕ, suc, ◌+◌, ◌-◌, ◌*◌, ◌/◌, ◌≤◌, ◌<◌}
use mathlib.Core.Path.{◌≡◌, refl, sym}
use mathlib.Core.Bool.{Bool, true, false, ◌||◌}
use mathlib.Core.List.{List, [], ◌∷◌, map}
use native.Mathlib.Nat.{mul-le-mul_right, suc-mul}
use native.Mathlib.Decide.{dec_lt}
use native.Mathlib.Omega.{arith}
use lib.Dec.{eqb, ltb}
use lib.ListN.{length, get_or}
use borrow.Author.Tests.{ltb-true, ltb-false, lt-ltb, le-ltb}
use Rattle.rules.specs.Base.{when◌then◌else◌}
use Rattle.rules.specs.Tokens.{upper}
use Rattle.rules.proofs.Bools.{never}
use Rattle.base_text.specs.Names.{ordered}
use Rattle.std.specs.declared.cmp.Ordering.TheVariants.{Less, Greater}
use Rattle.base_text.proofs.ByteLaws.{upper-low, upper-small, upper-high}
use Rattle.base_text.proofs.Rest.{from_start, from_step, from_end}
use Rattle.base_text.proofs.NameLaws.{map_from}
use Rattle.base_keys.specs.Keys.{digit_of, shared, onward, weighed, key_of}

-- DIGITS

digit-in : (c : ℕ) → c < 96 → digit_of c ≡ c - 47
unfolding digit_of when◌then◌else◌
digit-in c h = let l : c - 47 < 49 = omega arith in rw (lt-ltb (c - 47) 49 l)

digit-high : (c : ℕ) → 96 ≤ c → digit_of c ≡ 49
unfolding digit_of when◌then◌else◌
digit-high c h = let l : 49 ≤ c - 47 = omega arith in rw (le-ltb (c - 47) 49 l)

digit_low : (c : ℕ) → digit_of c ≤ 49
digit_low c = go (ltb c 96) refl
  where
    go : (t : Bool) → ltb c 96 ≡ t → digit_of c ≤ 49
    go true e = omega (arith, digit-in c (ltb-true c 96 e), ltb-true c 96 e)
    go false e = omega (arith, digit-high c (ltb-false c 96 e))

-- the digit of a byte in upper case
module _ (c : ℕ) where
  pub byte_low : c < 48 → 0 ≡ digit_of (upper c)
  byte_low h = let u : c ≡ upper c = upper-low c (omega arith) in omega (arith, digit-in (upper c) (omega arith))

  pub byte-in : 48 ≤ c → c ≤ 95 → c - 47 ≡ digit_of (upper c)
  byte-in l h = let u : c ≡ upper c = upper-low c (omega arith) in omega (arith, digit-in (upper c) (omega arith))

  pub byte-between : 95 < c → c < 97 → 49 ≡ digit_of (upper c)
  byte-between l h = let u : c ≡ upper c = upper-low c h in sym (digit-high (upper c) (omega arith))

  pub byte_small : 97 ≤ c → c ≤ 122 → c - 79 ≡ digit_of (upper c)
  byte_small l h = let u : c - 32 ≡ upper c = upper-small c l h in omega (arith, digit-in (upper c) (omega arith))

  pub byte_high : 122 < c → 49 ≡ digit_of (upper c)
  byte_high h = let u : c ≡ upper c = upper-high c h in sym (digit-high (upper c) (omega arith))

-- a lower digit is a lower byte
digit-less : (c d : ℕ) → digit_of c < digit_of d → c < d
digit-less c d h = go (ltb c 96) refl (ltb d 96) refl
  where
    go : (s : Bool) → ltb c 96 ≡ s → (t : Bool) → ltb d 96 ≡ t → c < d
    go true e true f = omega (arith, digit-in c (ltb-true c 96 e), digit-in d (ltb-true d 96 f))
    go true e false f = omega (arith, ltb-true c 96 e, ltb-false d 96 f)
    go false e true f = omega (arith, digit-high c (ltb-false c 96 e), digit_low d)
    go false e false f = omega (arith, digit-high c (ltb-false c 96 e), digit_low d)

-- the same digit is the same byte, of those that words have
digit-same : (c d : ℕ) → digit_of c ≡ digit_of d → 0 < digit_of c → digit_of c < 49 → c ≡ d
digit-same c d h l k = go (ltb c 96) refl (ltb d 96) refl
  where
    go : (s : Bool) → ltb c 96 ≡ s → (t : Bool) → ltb d 96 ≡ t → c ≡ d
    go true e true f = omega (arith, digit-in c (ltb-true c 96 e), digit-in d (ltb-true d 96 f))
    go true e false f = omega (arith, digit-high d (ltb-false d 96 f))
    go false e true f = omega (arith, digit-high c (ltb-false c 96 e))
    go false e false f = omega (arith, digit-high c (ltb-false c 96 e))

-- WHAT A DIGIT COUNTS

-- the lowest and the highest digit are shared
low-shared : shared 0 ≡ true
unfolding shared
low-shared = refl

high-shared : shared 49 ≡ true
unfolding shared
high-shared = refl

-- one that is not stands between them
inner : (d : ℕ) → d ≤ 49 → shared d ≡ false → (0 < d) × (d < 49)
inner d l e = (
  elim (dec_lt 0 d) [ yes h ↦ h | no h ↦ (let z : d ≡ 0 = omega arith in never (cc low-shared)) ],
  elim (dec_lt d 49) [ yes h ↦ h | no h ↦ (let z : d ≡ 49 = omega arith in never (cc high-shared)) ],
)

onward-none : (d w : ℕ) → shared d ≡ true → onward d w ≡ 0
unfolding onward when◌then◌else◌
onward-none d w e = rw e

onward-next : (d w : ℕ) → shared d ≡ false → onward d w ≡ w / 64
unfolding onward when◌then◌else◌
onward-next d w e = rw e

onward-low : (d w : ℕ) → onward d w * 64 ≤ w
onward-low d w = go (shared d) refl
  where
    go : (t : Bool) → shared d ≡ t → onward d w * 64 ≤ w
    go true e = omega (arith, onward-none d w e)
    go false e = omega (arith, onward-next d w e)

-- as the code tests it
module _ (d w : ℕ) where
  pub next-none : (eqb d 0 || eqb d 49) ≡ true → 0 ≡ onward d w
  unfolding shared
  next-none e = sym (onward-none d w e)

  pub next-some : (eqb d 0 || eqb d 49) ≡ false → w / 64 ≡ onward d w
  unfolding shared
  next-some e = sym (onward-next d w e)

-- SUMS OF DIGITS

-- the digits after one count less than it together
weighed-low : (w : ℕ) (s : List ℕ) → weighed w s ≤ w * 64 - 1
unfolding weighed
weighed-low w [] = omega arith
weighed-low w (c ∷ s) = omega (arith, mul-le-mul_right w (digit_low c), weighed-low (onward (digit_of c) w) s, onward-low (digit_of c) w)

weighed-none : (s : List ℕ) → weighed 0 s ≡ 0
weighed-none s = omega (arith, weighed-low 0 s)

-- THE LAW: what counts less comes before
module _ (w x y : ℕ) (a b : List ℕ) (h : weighed w (x ∷ a) < weighed w (y ∷ b)) where
  -- the first digits are not the other way round
  not-over : digit_of y < digit_of x → ⊥
  unfolding weighed
  not-over l = omega (arith, suc-mul (digit_of y) w, mul-le-mul_right w l, weighed-low (onward (digit_of y) w) b, onward-low (digit_of y) w)

  -- where they are the same, the rest tells
  rest-less : digit_of x ≡ digit_of y → weighed (onward (digit_of x) w) a < weighed (onward (digit_of x) w) b
  unfolding weighed
  rest-less e = rw e (omega (arith, rw e at h))

weighed-less : (w : ℕ) (a b : List ℕ) → weighed w a < weighed w b → ordered a b ≡ Less
unfolding weighed ordered when◌then◌else◌
weighed-less w [] [] h = absurd (omega arith)
weighed-less w [] (y ∷ b) h = refl
weighed-less w (x ∷ a) [] h = absurd (omega arith)
weighed-less w (x ∷ a) (y ∷ b) h = go (ltb (digit_of x) (digit_of y)) refl (ltb (digit_of y) (digit_of x)) refl (weighed-less (onward (digit_of x) w) a b)
  where
    after : (t : Bool) → shared (digit_of x) ≡ t → digit_of x ≡ digit_of y → (weighed (onward (digit_of x) w) a < weighed (onward (digit_of x) w) b → ordered a b ≡ Less) → ordered (x ∷ a) (y ∷ b) ≡ Less
    after true f e ih = absurd (omega (arith, weighed-none a, weighed-none b, rw (onward-none (digit_of x) w f) at (rest-less w x y a b h e)))
    after false f e ih =
        let i = inner (digit_of x) (digit_low x) f in
        let q : x ≡ y = digit-same x y e i.0 i.1 in
        let l : x ≤ y = omega arith in
        let m : y ≤ x = omega arith in
        rw (le-ltb x y m, le-ltb y x l) (ih (rest-less w x y a b h e))

    go : (s : Bool) → ltb (digit_of x) (digit_of y) ≡ s → (t : Bool) → ltb (digit_of y) (digit_of x) ≡ t → (weighed (onward (digit_of x) w) a < weighed (onward (digit_of x) w) b → ordered a b ≡ Less) → ordered (x ∷ a) (y ∷ b) ≡ Less
    go true e t f ih = rw (lt-ltb x y (digit-less x y (ltb-true (digit_of x) (digit_of y) e)))
    go false e true f ih = absurd (not-over w x y a b h (ltb-true (digit_of y) (digit_of x) f))
    go false e false f ih = after (shared (digit_of x)) refl (omega (arith, ltb-false (digit_of x) (digit_of y) e, ltb-false (digit_of y) (digit_of x) f)) ih

-- the other way round
turned : (a b : List ℕ) → ordered a b ≡ Less → ordered b a ≡ Greater
unfolding ordered when◌then◌else◌
turned [] [] e = never cc
turned [] (y ∷ b) e = refl
turned (x ∷ a) [] e = never cc
turned (x ∷ a) (y ∷ b) e = go (ltb x y) refl (ltb y x) refl e (turned a b)
  where
    go : (s : Bool) → ltb x y ≡ s → (t : Bool) → ltb y x ≡ t → (when s then Less else when t then Greater else ordered a b) ≡ Less → (ordered a b ≡ Less → ordered b a ≡ Greater) → (when t then Less else when s then Greater else ordered b a) ≡ Greater
    go true p true q f ih = absurd (omega (arith, ltb-true x y p, ltb-true y x q))
    go true p false q f ih = refl
    go false p true q f ih = never cc
    go false p false q f ih = ih f

-- as keys tell it
module _ (a b : List ℕ) {x y : ℕ} (p : x ≡ key_of a) (q : y ≡ key_of b) where
  pub key-less : x < y → Less ≡ ordered a b
  unfolding key_of
  key-less h = sym (weighed-less 18014398509481984 a b (omega arith))

  pub key_more : y < x → Greater ≡ ordered a b
  unfolding key_of
  key_more h = sym (turned b a (weighed-less 18014398509481984 b a (omega arith)))

-- THE LOOP: what is counted so far, and what the rest counts
pub record Weighing (name : List ℕ) (key weight i : ℕ) : Type 0 where
  pub low : key + weight * 64 ≤ 1152921504606846976
  pub same : key + weighed weight (map_from upper name i) ≡ key_of (map upper name)

pub weighing-none : (name : List ℕ) → Weighing name 0 18014398509481984 0
unfolding key_of
weighing-none name = record { low = omega arith; same = rw from_start (omega arith) }

module _ {name : List ℕ} {key weight i : ℕ} (v : Weighing name key weight i) where
  pub weighing-over : length name ≤ i → key ≡ key_of (map upper name)
  unfolding weighed
  weighing-over h = omega (arith, rw (from_end name i h) at v.same)

  -- a digit d, of which r is the same number
  module _ {d r : ℕ} (h : i < length name) (p : d ≡ digit_of (upper (get_or name i 0))) (q : r ≡ d) where
    fits : r * weight + weight ≤ weight * 64
    fits = omega (arith, suc-mul r weight, mul-le-mul_right weight (let l : suc r ≤ 64 = omega (arith, digit_low (upper (get_or name i 0))) in l))

    pub product-low : r * weight ≤ 1152921504606846976
    product-low = omega (arith, fits, v.low)

    pub sum_low : key + r * weight ≤ 1152921504606846976
    sum_low = omega (arith, fits, v.low)

    pub weighing-more : {w : ℕ} → w ≡ onward d weight → Weighing name (key + r * weight) w (i + 1)
    unfolding weighed
    weighing-more {w} e = record {
      low = omega (arith, fits, v.low, onward-low d weight);
      same = rw (e, q, p) (omega (arith, rw (from_step name i h) at v.same));
    }

    -- nothing more counts
    pub weighing-last : {w : ℕ} → w ≡ onward d weight → w ≡ 0 → key + r * weight ≡ key_of (map upper name)
    weighing-last {w} e z = omega (arith, rw z at (weighing-more e).same, weighed-none (map_from upper name (i + 1)))
