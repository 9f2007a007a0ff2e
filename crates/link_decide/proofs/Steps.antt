-- The steps of the decision: which refusal goes first, what is added up, and what is judged. Assumes nothing.
use Rattle.std.specs.declared.result.Result.{Result}
use Rattle.std.specs.declared.result.Result.TheVariants.{Ok, Err}
use Rattle.base_refusals.specs.declared.Fault.{Fault}
use Rattle.base_refusals.specs.Refusals.{fault}
use mathlib.Core.Path.{◌≡◌, refl, sym, ◌∙◌, ap}
use mathlib.Core.Bool.{Bool, true, false, ◌||◌, not}
use mathlib.Core.List.{List, [], ◌∷◌}
use Prim.Native.Nat.{ℕ, ◌+◌, ◌≤◌, ◌<◌}
use native.Mathlib.Omega.{arith}
use lib.ListN.{length}
use borrow.Author.Tests.{lt-ltb, le-ltb}
use Rattle.rules.specs.Base.{when◌then◌else◌, Outcome, ok, refused, refuse, require, ◌>>=◌, ◌>>◌, span}
use Rattle.rules.specs.Tables.{Table, name_order, look}
use Rattle.rules.specs.Objects as Objects
use Rattle.rules.specs.Objects.{Lab, Name}
use Rattle.rules.specs.Answers.{no_counts}
use Rattle.rules.specs.Buffers.{tab, head_row, view_labels, label_row}
use Rattle.rules.specs.Linking.{differ, agree}
use Rattle.rules.proofs.Bools.{never}
use Rattle.rules.proofs.Rows.{length-tab}
use Rattle.object.specs.declared.Counts.{Counts}
use Rattle.object_check.specs.declared.ObjectErr.{ObjectErr}
use Rattle.object_check.specs.declared.ObjectErr.TheVariants.{ShortBuffer, BadObject}
use Rattle.link_blocks.specs.Meeting.{meeting}
use Rattle.link_labels.specs.Matching.{both_agree, told, MatchReady, BothNoted, Matches}
use Rattle.link_relocations.specs.Open.{Carried}
use Rattle.link_decide.specs.Decided.{said, given, weighed, tallied, open_count, Judged}

-- 42 AND 43

pub given-short : (f s : Result (Unit {0}) ObjectErr) (t : Bool) → t ≡ true → Err ShortBuffer ≡ given f s t
unfolding given
given-short f s t e = rw e refl

module _ (f s : Result (Unit {0}) ObjectErr) (t : Bool) (n : t ≡ false) where
  pub given-first : f ≡ Err ShortBuffer → Err ShortBuffer ≡ given f s t
  unfolding given
  given-first e = rw (n, e) refl

  pub given-second : f ≡ Ok tt → s ≡ given f s t
  unfolding given
  given-second e = rw (n, e) refl

  module _ (e : f ≡ Err BadObject) where
    pub given-late : s ≡ Err ShortBuffer → Err ShortBuffer ≡ given f s t
    unfolding given
    given-late q = rw (n, e, q) refl

    pub given-bad : s ≡ Ok tt → Err BadObject ≡ given f s t
    unfolding given
    given-bad q = rw (n, e, q) refl

    pub given_both : s ≡ Err BadObject → Err BadObject ≡ given f s t
    unfolding given
    given_both q = rw (n, e, q) refl

-- 40 AND 41

abbrev weighing : Bool → Bool → Bool → Bool → Counts → Result Counts Fault
weighing b l r w c = when b || l || r then Err (fault 40 0 0) else (when w then Err (fault 41 0 0) else Ok c)

module _ (c : Counts) (room : ℕ) where
  pub weigh-blocks : 64 < c.blocks → Err (fault 40 0 0) ≡ weighed c room
  unfolding weighed when◌then◌else◌
  weigh-blocks h = rw (lt-ltb 64 c.blocks h) refl

  module _ (b : c.blocks ≤ 64) where
    pub weigh-labels : 1024 < c.labels → Err (fault 40 0 0) ≡ weighed c room
    unfolding weighed when◌then◌else◌
    weigh-labels h = rw (le-ltb 64 c.blocks b, lt-ltb 1024 c.labels h) refl

    module _ (l : c.labels ≤ 1024) where
      pub weigh-relocations : 1024 < c.relocations → Err (fault 40 0 0) ≡ weighed c room
      unfolding weighed when◌then◌else◌
      weigh-relocations h = rw (le-ltb 64 c.blocks b, le-ltb 1024 c.labels l, lt-ltb 1024 c.relocations h) refl

      module _ (r : c.relocations ≤ 1024) where
        pub weigh-words : room < c.words → Err (fault 41 0 0) ≡ weighed c room
        unfolding weighed when◌then◌else◌
        weigh-words h = rw (le-ltb 64 c.blocks b, le-ltb 1024 c.labels l, le-ltb 1024 c.relocations r, lt-ltb room c.words h) refl

        pub weigh-fits : c.words ≤ room → Ok c ≡ weighed c room
        unfolding weighed when◌then◌else◌
        weigh-fits h = rw (le-ltb 64 c.blocks b, le-ltb 1024 c.labels l, le-ltb 1024 c.relocations r, le-ltb room c.words h) refl

-- THE JUDGEMENT

-- a refusal of one stage handed on by another
abbrev refused_as : Outcome (Unit {0}) → Outcome Objects.Counts
refused_as (ok u) = ok no_counts
refused_as (refused q) = refused q

abbrev start_of : Outcome (Unit {0}) → ℕ
start_of (ok u) = 0
start_of (refused q) = q.first.start

-- the row that differs is one of the first object's
agree-row : (r : ℕ) (s t : Table Name Lab) (k : ℕ) → agree r s t ≡ refuse 25 (span k (k + 1)) → k < r + length s
unfolding agree
agree-row r [] t k e = never cc
agree-row r (d ∷ s) t k e = go (differ d.1 (look name_order t d.0)) e (agree-row (r + 1) s t k)
  where
    go : (x : Bool) → (require (not x) 25 (span r (r + 1)) >> agree (r + 1) s t) ≡ refuse 25 (span k (k + 1)) → (agree (r + 1) s t ≡ refuse 25 (span k (k + 1)) → k < r + 1 + length s)
        → k < r + length (d ∷ s)
    go true e ih = let z : r ≡ k = ap start_of e in omega arith
    go false e ih = omega (arith, ih e)

pub row_fits : {m : ℕ} {al an : List ℕ} {n : ℕ} {bl bn : List ℕ} {r : Result ℕ ℕ} {xs ys xs' ys' : List ℕ} {k : ℕ} → MatchReady m al an n bl bn xs ys → Matches m al an n bl bn r xs' ys' → r ≡ Err k → k < 1024
unfolding view_labels
row_fits {m} {al} {an} {n} {bl} {bn} {r} {xs} {ys} {xs'} {ys'} {k} g h e =
    omega (arith, agree-row 0 (tab m (label_row al an)) (tab n (label_row bl bn)) k (sym h.answer ∙ ap told e), length-tab m (label_row al an), g.first.few)

-- the notes keep their length, so that they are there for each relocation
pub still-carried : {n : ℕ} {rs xs xs' : List ℕ} → Carried n rs xs → length xs' ≡ length xs → Carried n rs xs'
still-carried c e = record { room = c.room; noted = λ k l. omega (arith, c.noted k l, e); up = c.up }

module _ (c : Counts) (bs ls rs ns : List ℕ) (d : Counts) (cs ms qs os : List ℕ) (room : ℕ) (r : Result Counts Fault) (xs ys : List ℕ) (x : Bool)
    (m : x ≡ meeting (tab c.blocks (head_row bs)) (tab d.blocks (head_row cs))) where
  pub judged-meets : x ≡ true → r ≡ Err (fault 28 0 0) → Judged c bs ls rs ns d cs ms qs os room r xs ys
  judged-meets e q =
      let t = sym m ∙ e in
      record { meets = λ h. q; differs = λ h s a. never cc; weighs = λ h a. never cc; noted = λ h a. never cc }

  module _ (e : x ≡ false) (y : Result ℕ ℕ) (h : Matches c.labels ls ns d.labels ms os y xs ys) where
    pub judged-differs : (k : ℕ) → y ≡ Err k → r ≡ Err (fault 25 k (k + 1)) → Judged c bs ls rs ns d cs ms qs os room r xs ys
    judged-differs k p q =
        let t = sym m ∙ e in
        let z : refuse 25 (span k (k + 1)) ≡ both_agree c.labels ls ns d.labels ms os = sym (ap told p) ∙ h.answer in
        record { meets = λ h. never cc; differs = λ h s a. ap said q ∙ (let w : refuse 25 (span k (k + 1)) ≡ refused s = z ∙ a in ap refused_as w); weighs = λ h a. never cc; noted = λ h a. never cc }

    pub judged-weighs : (k : ℕ) → y ≡ Ok k → (t : Counts) → r ≡ weighed t room → t ≡ tallied c d k (open_count c.relocations rs xs) (open_count d.relocations qs ys)
        → Judged c bs ls rs ns d cs ms qs os room r xs ys
    judged-weighs k p u v w =
        let t = sym m ∙ e in
        let q : r ≡ weighed (tallied c d k (open_count c.relocations rs xs) (open_count d.relocations qs ys)) room = v ∙ ap (λ (j : Counts). weighed j room) w in
        let z : ok tt ≡ both_agree c.labels ls ns d.labels ms os = sym (ap told p) ∙ h.answer in
        let n : BothNoted c.labels ls ns d.labels ms os k xs ys = h.noted k p in
        record {
          meets = λ h. never cc;
          differs = λ h s a. never cc;
          weighs = λ h a. q ∙ ap (λ (j : ℕ). weighed (tallied c d j (open_count c.relocations rs xs) (open_count d.relocations qs ys)) room) n.count;
          noted = λ h a. record { count = refl; first = n.first; second = n.second };
        }
