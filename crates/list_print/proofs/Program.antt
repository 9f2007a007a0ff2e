-- What the listing program prints, by the call that assembles in its buffers. Assumes nothing.
use Prim.Native.Nat.{ℕ, ◌+◌, ◌≤◌, ◌<◌}
use mathlib.Core.Path.{◌≡◌, refl, sym, ◌∙◌, ap, subst}
use mathlib.Core.Bool.{Bool, true, false}
use mathlib.Core.List.{List, [], ◌∷◌, ◌++◌, append-nil}
use native.Mathlib.Omega.{arith}
use borrow.Author.Tests.{eq-eqb, ne_eqb, le-leb, lt-leb}
use lib.ListN.{length, length-append, length-replicate}
use Rattle.rules.specs.Base.{when◌then◌else◌, Outcome, ok, refused, refuse, Refusal, nowhere}
use Rattle.rules.specs.Capacities.{program_source_room, program_word_room}
use Rattle.rules.specs.Answers.{answer}
use Rattle.rules.specs.Objects.{Object, Counts, counts_of, flat}
use Rattle.rules.specs.Buffers.{Buffers, six, short, least, lent_words, Valid, view, zeros}
use Rattle.rules.specs.Calls.{of_bytes}
use Rattle.rules.specs.Passes.{assemble}
use Rattle.rules.specs.Listing.{listing, printed, assembled, listing_program}
use Rattle.rules.proofs.Bools.{never}
use Rattle.rules.proofs.Laid.{view-layout}
use Rattle.rules.proofs.Fits.{long}
use Rattle.laws_numbers.proofs.Bounds.{Within, known-within}
use Rattle.laws_numbers.proofs.Passes.{assembling-numbered}
use Rattle.laws_accepted.proofs.Accepted.{accepted-fits}
use Rattle.object.specs.Meaning.{counts}
use Rattle.object_answer.specs.declared.Answer.{Answer}
use Rattle.object_answer.specs.Meant.{counts_in, Leaves, AcceptedCall}
use Rattle.object_answer.proofs.Full.{long-enough, layout-full}
use Rattle.asm.specs.Call.{called, Assembled}
use Rattle.asm.proofs.Accepting.{accepted-call}
use Rattle.list_print.specs.Program.{Wrote, follows, tells, Tellable}
use Rattle.list_print.proofs.Most.{listing-most}

-- THE BUFFERS THAT THE PROGRAM LENDS
abbrev pub lent : Buffers
lent = six (zeros 128) (zeros 32768) (zeros 32768) (zeros 4096) (zeros 2048) (zeros 65536)

pub lent-long : short lent ≡ false
lent-long = long-enough lent (length-replicate {A = ℕ} 128 0) (length-replicate {A = ℕ} 4096 0) (length-replicate {A = ℕ} 2048 0) (length-replicate {A = ℕ} 65536 0)

pub lent-words : lent_words lent.words lent.marks ≡ program_word_room
unfolding lent_words least when◌then◌else◌
lent-words = rw (length-replicate {A = ℕ} 32768 0) refl

-- A CALL, of whatever outcome: what it leaves in these buffers tells the outcome, if what is accepted is good and fits, and what is refused has a number of the table
pub record Telling (o : Outcome Object) (r : Answer) (b : Buffers) : Type 0 where
  pub left : Leaves o lent r b
  pub good : (x : Object) → o ≡ ok x → AcceptedCall lent r b x
  pub fits : (x : Object) → o ≡ ok x → length (flat x.blocks) ≤ program_word_room
  pub known : (q : Refusal) → o ≡ refused q → Within q.number

module _ (o : Outcome Object) (r : Answer) (b : Buffers) (l : Telling o r b) (len : ℕ) (h : 482304 ≤ len) where
  record Told (p : Outcome Object) : Type 0 where
    tellable : Tellable r b len
    same : tells r b ≡ printed p

  told-object : (x : Object) → o ≡ ok x → Told (ok x)
  unfolding tells when◌then◌else◌ printed
  told-object x e =
      let c = l.good x e in
      let k : counts (counts_in r) ≡ counts_of x = ap (λ a. a.counts) c.counts in
      let n : r.number ≡ 0 = ap (λ a. a.number) c.counts in
      let v : view (counts (counts_in r)) b ≡ x = ap (λ (d : Counts). view d b) k ∙ (ap (λ (d : Buffers). view (counts_of x) d) c.laid ∙ view-layout x lent c.good) in
      let m : length (listing x) ≤ 482304 = listing-most x c.good (l.fits x e) in
      record {
        tellable = record {
          low = omega (arith, n);
          line = omega arith;
          valid = λ z. subst (λ (d : Counts). Valid d b) (sym k) c.valid;
          long = λ z. rw c.laid (layout-full x lent lent-long);
          fits = λ z. omega (arith, ap (λ (o : Object). length (listing o)) v, m, h);
        };
        same = rw (eq-eqb r.number 0 n) (ap listing v);
      }

  told-refused : (q : Refusal) → o ≡ refused q → Told (refused q)
  unfolding tells when◌then◌else◌ printed answer
  told-refused q e =
      let t : Leaves (refused q) lent r b = rw e at l.left in
      let n : r.number ≡ q.number = ap (λ a. a.number) t.answer in
      let w : Within q.number = l.known q e in
      let z : r.number ≡ 0 → ⊥ = λ y. absurd (omega (arith, y, n, w.some)) in
      record {
        tellable = record {
          low = omega (arith, n, w.few);
          line = omega arith;
          valid = λ y. absurd (z y);
          long = λ y. absurd (z y);
          fits = λ y. absurd (z y);
        };
        same = rw (ne_eqb r.number 0 z, n) refl;
      }

  told : (p : Outcome Object) → o ≡ p → Told p
  told (ok x) e = told-object x e
  told (refused q) e = told-refused q e

  pub telling-tellable : Tellable r b len
  telling-tellable = (told o refl).tellable

  pub telling-wrote : (n : ℕ) (out : List ℕ) → Wrote (tells r b) len n out → Wrote (printed o) len n out
  telling-wrote n out w = let p = (told o refl).same in rw p at w

-- ASSEMBLING
module _ (s : List ℕ) where
  called_is : called lent s ≡ assemble program_word_room s
  unfolding called of_bytes when◌then◌else◌
  called_is = rw (lent-long, lent-words) refl

  assembled-is : length s ≤ 65536 → assembled s ≡ assemble program_word_room s
  unfolding assembled
  assembled-is h = rw (le-leb (length s) program_source_room h) refl

  module _ (r : Answer) (b : Buffers) (l : Assembled lent s r b) (len : ℕ) (h : 482304 ≤ len) where
    assembling-tells : Telling (assemble program_word_room s) r b
    assembling-tells =
        record {
          left = rw called_is at l;
          good = λ x e. accepted-call lent s r b x l (called_is ∙ e);
          fits = λ x e. accepted-fits program_word_room s x e;
          known = λ q e. known-within q.number ((assembling-numbered program_word_room s).number q e);
        }

    pub call-tellable : Tellable r b len
    call-tellable = telling-tellable (assemble program_word_room s) r b assembling-tells len h

    pub call-wrote : length s ≤ 65536 → (n : ℕ) (out : List ℕ) → Wrote (tells r b) len n out → Wrote (listing_program s) len n out
    unfolding listing_program
    call-wrote f n out w = rw (assembled-is f) (telling-wrote (assemble program_word_room s) r b assembling-tells len h n out w)

-- THE PROGRAM
pub whole-listed : (s : List ℕ) (len n : ℕ) (out : List ℕ) (more : Bool) → more ≡ false → Wrote (listing_program s) len n out → (rest : List ℕ) → more ≡ follows rest → Wrote (listing_program (s ++ rest)) len n out
unfolding follows
whole-listed s len n out more e w [] f = rw (append-nil s) w
whole-listed s len n out more e w (x ∷ rest) f = never cc

pub more-listed :
    (s : List ℕ) (len n : ℕ) (out : List ℕ) (more : Bool) → more ≡ true → (more ≡ true → length s ≡ 65536) → Wrote (printed (refuse 11 nowhere)) len n out → (rest : List ℕ) → more ≡ follows rest
    → Wrote (listing_program (s ++ rest)) len n out
unfolding follows listing_program assembled printed
more-listed s len n out more e h w [] f = never cc
more-listed s len n out more e h w (x ∷ rest) f =
    let k : 65536 < length (s ++ x ∷ rest) = omega (arith, h e, length-append s (x ∷ rest)) in
    rw (lt-leb (length (s ++ x ∷ rest)) program_source_room k) w
