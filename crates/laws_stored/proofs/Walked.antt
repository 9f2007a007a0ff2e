-- The fields that were read, walked through once more from the start: each is found at its place. Assumes nothing.
use mathlib.Core.Path.{◌≡◌, refl, sym, ◌∙◌, ap}
use mathlib.Core.List.{List, [], ◌∷◌, ◌++◌, append_assoc, append-nil}
use Prim.Native.Nat.{ℕ, ◌+◌, ◌≤◌}
use native.Mathlib.Omega.{arith}
use lib.ListN.{length, take, drop, length-append, length-take, take-append-drop}
use Rattle.rules.specs.Stored.{Item, tag_of, content, frame, spell, State}
use Rattle.laws_stored.proofs.Framed.{spell-append}
use Rattle.laws_stored.proofs.Accepted.{Finds, found-written}
use Rattle.laws_stored.proofs.Taken.{so_far}
use Rattle.laws_stored.proofs.Checking.{Checks}

-- of the items read, these are left from position p on
pub record Walks (s : State) (p : ℕ) (rest : List Item) : Type 0 where
  pub past : List Item
  pub items : so_far s ≡ past ++ rest
  pub place : length (spell past) ≡ p

pub walks-start : (s : State) → Walks s 0 (so_far s)
walks-start s = record { past = []; items = refl; place = refl }

-- the next one is found there
pub walks-found : (b : List ℕ) (s : State) (at p : ℕ) (i : Item) (rest : List Item) → Checks b s at → Walks s p (i ∷ rest) → Finds b p i (p + 3 + length (content i))
walks-found b s at p i rest c w =
    let f = frame (tag_of i) (content i) in
    let d = drop at b in
    let split : spell w.past ++ (f ++ (spell rest ++ d)) ≡ b =
    ap (λ (l : List ℕ). spell w.past ++ l) (sym (append_assoc f (spell rest) d))
    ∙ (sym (append_assoc (spell w.past) (f ++ spell rest) d)
    ∙ (ap (λ (l : List ℕ). l ++ d) (sym (spell-append w.past (i ∷ rest)) ∙ (ap spell (sym w.items) ∙ sym c.spelled)) ∙ take-append-drop at b)) in
    rw (split, w.place) at (found-written (spell w.past) i (spell rest ++ drop at b))

pub walks_more : (s : State) (p : ℕ) (i : Item) (rest : List Item) → Walks s p (i ∷ rest) → Walks s (p + 3 + length (content i)) rest
walks_more s p i rest w = record {
  past = w.past ++ (i ∷ []);
  items = w.items ∙ sym (append_assoc w.past (i ∷ []) rest);
  place = ap length (spell-append w.past (i ∷ [])) ∙ omega (arith, w.place, length-append (spell w.past) (spell (i ∷ [])), length-append (content i) []);
}

-- and it ends where what was read ends
pub walks-end : (b : List ℕ) (s : State) (at p : ℕ) → Checks b s at → Walks s p [] → p ≡ at
walks-end b s at p c w =
    let e : spell w.past ≡ take at b = ap spell (sym (w.items ∙ append-nil w.past)) ∙ sym c.spelled in
    omega (arith, w.place, ap length e, length-take at b, c.within)

pub walks_less : (b : List ℕ) (s : State) (at p : ℕ) (i : Item) (rest : List Item) → Checks b s at → Walks s p (i ∷ rest) → p + 3 + length (content i) ≤ at
walks_less b s at p i rest c w =
    let e : spell (w.past ++ (i ∷ rest)) ≡ take at b = ap spell (sym w.items) ∙ sym c.spelled in
    omega (arith, w.place, ap length e, ap length (spell-append w.past (i ∷ rest)), length-append (spell w.past) (spell (i ∷ rest)), length-append (content i) (spell rest), length-take at b, c.within)
