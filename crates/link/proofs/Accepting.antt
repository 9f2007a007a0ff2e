-- What a link accepts is a good object in its one layout; a refusal leaves all zero; two answers that the contract allows are equal; number 0 is acceptance. Assumes nothing.
use mathlib.Core.Path.{◌≡◌, sym, ap}
use mathlib.Core.Bool.{false}
use Prim.Native.Nat.{ℕ, ◌≤◌, ◌<◌}
use native.Mathlib.Omega.{arith}
use lib.ListN.{get_or}
use borrow.Author.Tests.{leb-true}
use Rattle.rules.specs.Base.{Outcome, ok, refused, Refusal}
use Rattle.rules.specs.Answers as rule
use Rattle.rules.specs.Objects.{Object, nothing, Counts, counts_of, Good}
use Rattle.rules.specs.Buffers.{Buffers, short, lent_words, view, layout, Valid}
use Rattle.rules.specs.Calls.{too_short, bad_object, on_object}
use Rattle.rules.specs.Linking.{union, link}
use Rattle.rules.proofs.Bools.{never}
use Rattle.rules.proofs.Calls.{answered-once}
use Rattle.rules.proofs.Sound.{labels-good, valid-good}
use Rattle.laws_link.proofs.Tests.{agree-refused}
use Rattle.laws_link.proofs.Answers as Answers
use Rattle.laws_link.proofs.Demand.{link-good}
use Rattle.object_answer.specs.declared.Answer.{Answer}
use Rattle.object_answer.specs.Meant.{Leaves, AcceptedCall}
use Rattle.object_answer.proofs.Leaving.{accepted-left, left-once}
use Rattle.link.specs.Call.{Outcomes, Linked}
use Rattle.link.proofs.Ready.{or-last}

-- THE RULE: what it accepts has no more words than are lent, and no refusal of it is number 0

link_fits : (room : ℕ) (a b o : Object) → link room a b ≡ ok o → (counts_of o).words ≤ room
link_fits room a b o e = go (Answers.answer room a b) e
  where
    go : {r : Outcome Object} → Answers.Answer room a b r → r ≡ ok o → (counts_of o).words ≤ room
    go (Answers.is_shared s) e = never cc
    go (Answers.is-differing s r q) e = never cc
    go (Answers.is-full s q i) e = never cc
    go (Answers.is-short s q i j) e = never cc
    go (Answers.is_made s q i j) e = let z : union a b ≡ o = cc in rw (← z) (leb-true (counts_of (union a b)).words room j)

link-numbers : (room : ℕ) (c : Counts) (b : Buffers) (a : Object) (q : Refusal) → Valid c b → link room (view c b) a ≡ refused q → 0 < q.number
link-numbers room c b a q v e = go (Answers.answer room (view c b) a) e
  where
    go : {r : Outcome Object} → Answers.Answer room (view c b) a r → r ≡ refused q → 0 < q.number
    go (Answers.is_shared s) e = let z : q.number ≡ 28 = cc in omega arith
    go (Answers.is-differing s r g) e =
        let z : r ≡ q = cc in
        rw (← z) (omega (arith, (agree-refused 0 (view c b).labels a.labels r (labels-good c.labels b.labels b.names v.labels).up g).0))
    go (Answers.is-full s g i) e = let z : q.number ≡ 40 = cc in omega arith
    go (Answers.is-short s g i j) e = let z : q.number ≡ 41 = cc in omega arith
    go (Answers.is_made s g i j) e = never cc

module _ (c : Counts) (b : Buffers) (d : Counts) (e : Buffers) (out : Buffers) where
  -- THE OUTCOME

  -- where an object is made both lent ones are valid, all buffers are long enough, and the rule made it
  pub record Made (o : Object) : Type 0 where
    pub first : Valid c b
    pub second : Valid d e
    pub full : short out ≡ false
    pub is : link (lent_words out.words out.marks) (view c b) (view d e) ≡ ok o

  pub outcome-made : (o : Object) → Outcomes c b d e out (ok o) → Made o
  outcome-made o (too_short x q) = never cc
  outcome-made o (bad_object x n q) = never cc
  outcome-made o (on_object x v q) = record { first = v.0; second = v.1; full = or-last (short b) (short e) (short out) x; is = sym q }

  outcome-numbers : (q : Refusal) → Outcomes c b d e out (refused q) → 0 < q.number
  outcome-numbers q (too_short x w) = let z : q.number ≡ 42 = cc in omega arith
  outcome-numbers q (bad_object x n w) = let z : q.number ≡ 43 = cc in omega arith
  outcome-numbers q (on_object x v w) = link-numbers (lent_words out.words out.marks) c b (view d e) q v.0 (sym w)

  module _ (r : Answer) (out' : Buffers) where
    -- the call answers and leaves what belongs to its outcome, which is one
    pub call-leaves : (o : Outcome Object) → Linked c b d e out r out' → Outcomes c b d e out o → Leaves o out r out'
    call-leaves o L Q = let z : L.outcome ≡ o = answered-once L.is Q in rw z at L.leaves

    pub good-call : (o : Object) → Linked c b d e out r out' → Outcomes c b d e out (ok o) → Good (view c b) → Good (view d e) → AcceptedCall out r out' o
    good-call o L Q g h =
        let M = outcome-made o Q in
        let k = link-good (lent_words out.words out.marks) (view c b) (view d e) o g h M.is in
        accepted-left out r out' o (call-leaves (ok o) L Q) k M.full (link_fits (lent_words out.words out.marks) (view c b) (view d e) o M.is)

    -- ACCEPTED: the words of a buffer of u16 are below 65536
    pub accepted-call : (o : Object) → Linked c b d e out r out' → Outcomes c b d e out (ok o) → ((i : ℕ) → get_or b.words i 0 < 65536) → ((i : ℕ) → get_or e.words i 0 < 65536) → AcceptedCall out r out' o
    accepted-call o L Q p q = let M = outcome-made o Q in good-call o L Q (valid-good c b M.first p) (valid-good d e M.second q)

    -- REFUSED
    pub refused-call : (q : Refusal) → Linked c b d e out r out' → Outcomes c b d e out (refused q) → out' ≡ layout nothing out
    refused-call q L Q = (call-leaves (refused q) L Q).buffers

    -- BY ITS NUMBER: 0 where an object is made, and only there
    pub by_number : Linked c b d e out r out' → r.number ≡ 0 → (o : Object) × Outcomes c b d e out (ok o)
    unfolding rule.answer
    by_number L z = go L.outcome L.is L.leaves
      where
        go : (o : Outcome Object) → Outcomes c b d e out o → Leaves o out r out' → (o : Object) × Outcomes c b d e out (ok o)
        go (ok o) Q l = (o, Q)
        go (refused q) Q l = absurd (omega (arith, outcome-numbers q Q, ap (λ (a : rule.Answer). a.number) l.answer))

    pub by-other-number : Linked c b d e out r out' → (r.number ≡ 0 → ⊥) → (q : Refusal) × Outcomes c b d e out (refused q)
    unfolding rule.answer
    by-other-number L z = go L.outcome L.is L.leaves
      where
        go : (o : Outcome Object) → Outcomes c b d e out o → Leaves o out r out' → (q : Refusal) × Outcomes c b d e out (refused q)
        go (ok o) Q l = absurd (z (ap (λ (a : rule.Answer). a.number) l.answer))
        go (refused q) Q l = (q, Q)

  -- ONE ANSWER
  pub linked-once : (r t : Answer) (x y : Buffers) → Linked c b d e out r x → Linked c b d e out t y → (r ≡ t) × (x ≡ y)
  linked-once r t x y L M = left-once M.outcome out r t x y (call-leaves r x M.outcome L M.is) M.leaves
