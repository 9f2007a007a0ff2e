-- What every call is, said once: section "Refusal numbers" of document 01, where it says which refusal goes first and what a call leaves. Assumes nothing.
use Rattle.std.specs.Prelude.{◌≡◌, Bool, true, false, ◌||◌, List, [], ℕ}
use Rattle.rules.specs.Base.{when◌then◌else◌, Outcome, ok, refused, refuse, nowhere}
use Rattle.rules.specs.Objects.{Object, nothing, Counts}
use Rattle.rules.specs.Buffers.{Buffers, short, Valid, lay, layout}
use Rattle.rules.specs.Answers.{Answer, answer}

-- THE ANSWER

-- 42 comes before all else in every call: a lent table or name buffer is shorter than full capacities need. 43 is next: a lent object is none. Then the call's own rule.
-- r is the answer of a call whose lent buffers are too short or not (`small`), whose lent objects are such (`valid`), and whose rule says `rule`.
pub data Answered {A : Type 0} (small : Bool) (valid : Type 0) (rule r : Outcome A) : Type 0 where
  too_short : small ≡ true → r ≡ refuse 42 nowhere → Answered small valid rule r
  bad_object : small ≡ false → (valid → ⊥) → r ≡ refuse 43 nowhere → Answered small valid rule r
  on_object : small ≡ false → valid → r ≡ rule → Answered small valid rule r

-- of a call that is lent one object: its counts and its six buffers
abbrev pub OfObject : {A : Type 0} → Counts → Buffers → Outcome A → Outcome A → Type 0
OfObject c b rule r = Answered (short b) (Valid c b) rule r

-- of a call that is lent two objects, and buffers for a third; 42 and 43 have no place, so which of the two is bad makes no difference
abbrev pub OfTwoObjects : {A : Type 0} → Counts → Buffers → Counts → Buffers → Buffers → Outcome A → Outcome A → Type 0
OfTwoObjects c b d e out rule r = Answered (short b || short e || short out) (Valid c b × Valid d e) rule r

-- of a call that is lent bytes, a source or a stored object, and buffers for an object: nothing can be 43, and the answer is computed
unfoldable pub of_bytes : {A : Type 0} → Buffers → Outcome A → Outcome A
of_bytes out rule = when short out then refuse 42 nowhere else rule

-- AFTERWARDS. A lent object, a source and stored bytes are as they were: no call can write to them. After acceptance the unused rest of each output buffer is zero.

-- buffers for an object hold its layout; after a refusal all zero, which is the layout of the object with nothing
abbrev pub left_object : Outcome Object → Buffers → Buffers
left_object (ok o) b = layout o b
left_object (refused r) b = layout nothing b

-- a buffer for bytes holds them and zero behind them; after a refusal all zero
abbrev pub bytes_of : Outcome (List ℕ) → List ℕ
bytes_of (ok l) = l
bytes_of (refused r) = []

abbrev pub left_bytes : Outcome (List ℕ) → ℕ → List ℕ
left_bytes o len = lay (bytes_of o) len

-- a call that makes an object: its answer in numbers, and the buffers afterwards
pub record Makes (o : Outcome Object) (b : Buffers) (a : Answer) (b' : Buffers) : Type 0 where
  pub answer : a ≡ answer o
  pub buffers : b' ≡ left_object o b
