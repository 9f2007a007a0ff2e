-- A text left in a lent buffer, and what an answer and the buffers of its object tell. Assumes nothing.
use Rattle.std.specs.Prelude.{ℕ, ◌≤◌, ◌<◌, ◌≡◌, refl, Bool, eqb, length}
use Rattle.std.proofs.Common.{sym, ◌∙◌}
use Rattle.std.proofs.Math.Bool.{true, false}
use mathlib.Core.List.{List, [], ◌∷◌, ◌++◌}
use Rattle.rules.specs.Base.{when◌then◌else◌, refuse, nowhere}
use Rattle.rules.specs.Buffers.{Buffers, short, Valid, view, lay}
use Rattle.rules.specs.Listing.{listing, printed, listing_program}
use Rattle.object.specs.Meaning.{counts}
use Rattle.object_answer.specs.declared.Answer.{Answer}
use Rattle.object_answer.specs.Meant.{counts_in}

-- the text l stands at the front of a buffer of len bytes, zeros behind it, and r is how long it is
pub record Wrote (l : List ℕ) (len r : ℕ) (buffer : List ℕ) : Type 0 where
  pub count : r ≡ length l
  pub here : buffer ≡ lay l len
  pub room : r ≤ length buffer

-- there are bytes
unfoldable pub follows : List ℕ → Bool
follows [] = false
follows (b ∷ bs) = true

-- of an input the bytes src were read, and more of them follow or not: what the program prints of it
abbrev pub Listed : List ℕ → Bool → ℕ → ℕ → List ℕ → Type 0
Listed src more len r buffer = (rest : List ℕ) → more ≡ follows rest → Wrote (listing_program (src ++ rest)) len r buffer

-- number 0 is the object that stands in the buffers, any other a refusal
unfoldable pub tells : Answer → Buffers → List ℕ
tells a b = when eqb a.number 0 then listing (view (counts (counts_in a)) b) else printed (refuse a.number nowhere)

-- an answer that can be told in so many bytes
pub record Tellable (a : Answer) (b : Buffers) (len : ℕ) : Type 0 where
  pub low : a.number < 100
  pub line : 11 ≤ len
  pub valid : a.number ≡ 0 → Valid (counts (counts_in a)) b
  pub long : a.number ≡ 0 → short b ≡ false
  pub fits : a.number ≡ 0 → length (listing (view (counts (counts_in a)) b)) ≤ len

-- TWO ANSWERS THAT `Wrote` ALLOWS ARE EQUAL, and so are the buffers
module _ {l : List ℕ} {len r s : ℕ} {x y : List ℕ} (p : Wrote l len r x) (q : Wrote l len s y) where
  pub one_count : r ≡ s
  one_count = p.count ∙ sym q.count

  pub one_buffer : x ≡ y
  one_buffer = p.here ∙ sym q.here

-- and so of the program: some rest follows, or none
module _ (src : List ℕ) (len : ℕ) {r s : ℕ} {x y : List ℕ} where
  pub listed-once : (more : Bool) → Listed src more len r x → Listed src more len s y → (r ≡ s) × (x ≡ y)
  unfolding follows
  listed-once true p q = (one_count (p (0 ∷ []) refl) (q (0 ∷ []) refl), one_buffer (p (0 ∷ []) refl) (q (0 ∷ []) refl))
  listed-once false p q = (one_count (p [] refl) (q [] refl), one_buffer (p [] refl) (q [] refl))
