-- A call that makes an object in buffers of full size, and what it has made stored. Assumes nothing.
use Rattle.std.specs.declared.result.Result.{Result}
use Rattle.std.specs.declared.result.Result.TheVariants.{Err}
use Prim.Native.Nat.{ℕ}
use mathlib.Core.Path.{◌≡◌, refl, sym, ◌∙◌, ap, subst}
use mathlib.Core.Bool.{false}
use mathlib.Core.List.{List}
use lib.ListN.{length-replicate}
use Rattle.rules.specs.Base.{when◌then◌else◌, Outcome, ok, refused, Refusal, ◌>>=◌}
use Rattle.rules.specs.Capacities.{word_room}
use Rattle.rules.specs.Answers.{answer}
use Rattle.rules.specs.Objects.{Object, Counts, counts_of, Good}
use Rattle.rules.specs.Buffers.{Buffers, short, Valid, view, zeros, six, least, lent_words}
use Rattle.rules.specs.Calls.{OfObject, too_short, bad_object, on_object}
use Rattle.rules.specs.Stored.{store}
use Rattle.rules.proofs.Bools.{never}
use Rattle.rules.proofs.Laid.{view-layout}
use Rattle.rules.proofs.Rows.{lay-nil}
use Rattle.object.specs.Meaning.{counts}
use Rattle.object.specs.declared.Counts as code
use Rattle.object_answer.specs.declared.Answer.{Answer}
use Rattle.object_answer.specs.Meant.{counts_in, Leaves, AcceptedCall}
use Rattle.object_answer.specs.Writes.{Whole}
use Rattle.object_answer.proofs.Full.{long-enough, layout-full}
use Rattle.stored.specs.Call.{Called, MadeStored}

-- an object; a refusal, and zeros
pub object-stored : (a : Answer) (b : Buffers) (len : ℕ) (r : Result ℕ ℕ) (bytes : List ℕ) → a.number ≡ 0 → (c : code.Counts) → c ≡ counts_in a → Called (counts c) b len r bytes → MadeStored a b len r bytes
object-stored a b len r bytes z c e h = record { object = λ n. subst (λ (d : code.Counts). Called (counts d) b len r bytes) e h; refusal = λ n. absurd (n z) }

pub handed-on : (a : Answer) (b : Buffers) (len : ℕ) (bytes : List ℕ) → (a.number ≡ 0 → ⊥) → bytes ≡ zeros len → MadeStored a b len (Err a.number) bytes
handed-on a b len bytes n z = record { object = λ e. absurd (n e); refusal = λ m. record { answer = refl; buffer = z ∙ sym (lay-nil len) } }

-- BUFFERS OF FULL SIZE: tables all zero, and these words and marks
abbrev pub lending : List ℕ → List ℕ → Buffers
lending ws ms = six (zeros 128) ws ms (zeros 4096) (zeros 2048) (zeros 65536)

pub lending-long : (ws ms : List ℕ) → short (lending ws ms) ≡ false
lending-long ws ms = long-enough (lending ws ms) (length-replicate {A = ℕ} 128 0) (length-replicate {A = ℕ} 4096 0) (length-replicate {A = ℕ} 2048 0) (length-replicate {A = ℕ} 65536 0)

-- with all the words that an object can have
abbrev pub lent : Buffers
lent = lending (zeros 65024) (zeros 65024)

pub lent-words : lent_words lent.words lent.marks ≡ word_room
unfolding lent_words least when◌then◌else◌
lent-words = rw (length-replicate {A = ℕ} 65024 0) refl

-- A CALL, of whatever outcome, in buffers of full size: what it accepts is good, and a refusal is not number 0
pub record Makes (o : Outcome Object) (out : Buffers) (a : Answer) (b : Buffers) : Type 0 where
  pub left : Leaves o out a b
  pub full : short out ≡ false
  pub good : (x : Object) → o ≡ ok x → AcceptedCall out a b x
  pub numbered : (q : Refusal) → o ≡ refused q → a.number ≡ 0 → ⊥

-- the object stands in the buffers
pub record Stands (x : Object) (a : Answer) (b : Buffers) : Type 0 where
  pub full : short b ≡ false
  pub valid : Valid (counts (counts_in a)) b
  pub is : view (counts (counts_in a)) b ≡ x
  pub good : Good x

-- the outcome by its number
pub record Accepts (o : Outcome Object) (a : Answer) (b : Buffers) : Type 0 where
  pub object : Object
  pub made : o ≡ ok object
  pub stands : Stands object a b

pub record Refuses (o : Outcome Object) (a : Answer) : Type 0 where
  pub refusal : Refusal
  pub made : o ≡ refused refusal
  pub same : a.number ≡ refusal.number

module _ {o : Outcome Object} {out : Buffers} {a : Answer} {b : Buffers} (m : Makes o out a b) where
  accepted : (x : Object) → o ≡ ok x → (a.number ≡ 0) × Stands x a b
  accepted x e =
      let c = m.good x e in
      let k : counts (counts_in a) ≡ counts_of x = ap (λ r. r.counts) c.counts in
      let n : a.number ≡ 0 = ap (λ r. r.number) c.counts in
      let v : view (counts (counts_in a)) b ≡ x = ap (λ (d : Counts). view d b) k ∙ (ap (λ (d : Buffers). view (counts_of x) d) c.laid ∙ view-layout x out c.good) in (
        n,
        record {
          full = rw c.laid (layout-full x out m.full);
          valid = subst (λ (d : Counts). Valid d b) (sym k) c.valid;
          is = v;
          good = c.good;
        },
      )

  refuses : (q : Refusal) → o ≡ refused q → a.number ≡ q.number
  unfolding answer
  refuses q e = let t : Leaves (refused q) out a b = rw e at m.left in ap (λ r. r.number) t.answer

  pub by_zero : a.number ≡ 0 → Accepts o a b
  by_zero z = go o refl
    where
      go : (p : Outcome Object) → o ≡ p → Accepts o a b
      go (ok x) e = record { object = x; made = e; stands = (accepted x e).1 }
      go (refused q) e = absurd (m.numbered q e z)

  pub by-other : (a.number ≡ 0 → ⊥) → Refuses o a
  by-other n = go o refl
    where
      go : (p : Outcome Object) → o ≡ p → Refuses o a
      go (ok x) e = absurd (n (accepted x e).0)
      go (refused q) e = record { refusal = q; made = e; same = refuses q e }

  -- STORED: what the rule says of the outcome
  module _ (len : ℕ) (r : Result ℕ ℕ) (bytes : List ℕ) (s : MadeStored a b len r bytes) where
    whole-object : (x : Object) → Stands x a b → Called (counts (counts_in a)) b len r bytes → Whole (store len x) len r bytes
    whole-object x t c = let z = outcome-is c.outcome c.lent in rw z at c.whole
      where
        outcome-is : (p : Outcome (List ℕ)) → OfObject (counts (counts_in a)) b (store len (view (counts (counts_in a)) b)) p → p ≡ store len x
        outcome-is p (too_short f e) = let g = t.full in never cc
        outcome-is p (bad_object f n e) = absurd (n t.valid)
        outcome-is p (on_object f v e) = e ∙ ap (store len) t.is

    pub made-whole : Whole (o >>= store len) len r bytes
    made-whole = go o refl
      where
        go : (p : Outcome Object) → o ≡ p → Whole (p >>= store len) len r bytes
        go (ok x) e = let t = accepted x e in whole-object x t.1 (s.object t.0)
        go (refused q) e =
            let k = refuses q e in
            let w = s.refusal (m.numbered q e) in
            record { answer = w.answer ∙ ap Err k; buffer = w.buffer }
