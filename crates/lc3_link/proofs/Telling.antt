-- What the functions of `lc3_link` answer and leave, by what comes of the link. Assumes nothing.
use Rattle.std.specs.declared.result.Result.{Result}
use Rattle.std.specs.declared.result.Result.TheVariants.{Ok, Err}
use Prim.Native.Nat.{ℕ, zero, suc, ◌-◌}
use mathlib.Core.Path.{◌≡◌, sym, ◌∙◌, ap}
use mathlib.Core.List.{List, [], ◌∷◌}
use native.Mathlib.Omega.{arith}
use borrow.Author.Tests.{eq-eqb, ne_eqb}
use lib.ListN.{take}
use Rattle.rules.specs.Base.{when◌then◌else◌, Outcome, ok, refused, Refusal}
use Rattle.rules.specs.Capacities.{word_room}
use Rattle.rules.specs.Objects.{Name, Object, Counts}
use Rattle.rules.specs.Buffers.{Buffers, view, name_row, zeros}
use Rattle.rules.specs.Linking.{link}
use Rattle.rules.specs.Stored.{load}
use Rattle.rules.proofs.Rows.{lay-nil}
use Rattle.laws_stored.specs.Beginnings.{AreBytes}
use Rattle.laws_stored.specs.Offsets.{part_at}
use Rattle.object.specs.Meaning.{counts}
use Rattle.object.specs.declared.Counts as code
use Rattle.object_answer.specs.declared.Answer.{Answer}
use Rattle.object_answer.specs.Meant.{counts_in}
use Rattle.object_answer.specs.Writes.{Whole}
use Rattle.link.specs.Call as Call
use Rattle.stored.specs.Call.{MadeStored}
use Rattle.stored.proofs.Made.{lent, by_zero, by-other, made-whole}
use Rattle.stored_load.specs.Call.{Loaded}
use Rattle.view_text.specs.Put.{Put}
use Rattle.view_text.proofs.Putting.{put-none, put_same}
use Rattle.lc3_link.specs.declared.Linked.{Linked}
use Rattle.lc3_link.specs.Linked.{comes, link_objects, link_second, link_first, link_stored, linked_of, Told, Held, blamed_row}
use Rattle.lc3_link.proofs.Calling.{load-makes, link-makes, blamed-name}

-- THE ROW'S NAME
module _ (a : Answer) (ls ns : List ℕ) where
  pub row-blamed : a.number ≡ 25 → name_row ls ns a.start ≡ blamed_row a ls ns
  unfolding blamed_row when◌then◌else◌
  row-blamed e = rw (eq-eqb a.number 25 e)

  pub none-blamed : (name : List ℕ) → (a.number ≡ 25 → ⊥) → Put name name 0 0 (blamed_row a ls ns)
  unfolding blamed_row when◌then◌else◌
  none-blamed name n = rw (ne_eqb a.number 25 n) (put-none name 0)

-- AN ANSWER
pub answer-bytes : (w : Result ℕ ℕ) (n named : ℕ) → w ≡ Ok n → ◌≡◌ {A = Linked} (record { number = 0; size = n; named = named }) (linked_of w named)
answer-bytes w n named e = rw e

pub answer-refused : (w : Result ℕ ℕ) (n named : ℕ) → w ≡ Err n → ◌≡◌ {A = Linked} (record { number = n; size = 0; named = named }) (linked_of w named)
answer-refused w n named e = rw e

module _ (len : ℕ) (name₀ : List ℕ) (r : Linked) (bytes name : List ℕ) where
  whole-told : (o : Outcome (List ℕ)) (n : Name) (w : Result ℕ ℕ) (named : ℕ) → Whole o len w bytes → Put name₀ name 0 named n → r ≡ linked_of w named → Told (comes o n) len name₀ r bytes name
  whole-told (ok l) n w named h p e =
      let f = e ∙ ap (λ (v : Result ℕ ℕ). linked_of v named) h.answer in
      record { number = ap (λ (x : Linked). x.number) f; size = ap (λ (x : Linked). x.size) f; holds = h.buffer; blames = rw (ap (λ (x : Linked). x.named) f) p }
  whole-told (refused q) n w named h p e =
      let f = e ∙ ap (λ (v : Result ℕ ℕ). linked_of v named) h.answer in
      record { number = ap (λ (x : Linked). x.number) f; size = ap (λ (x : Linked). x.size) f; holds = h.buffer; blames = rw (ap (λ (x : Linked). x.named) f) p }

refused-told : (len : ℕ) (name : List ℕ) (r : Linked) (bytes : List ℕ) (q : Refusal) (n : ℕ) → n ≡ q.number → bytes ≡ zeros len → r ≡ linked_of (Err n) 0 → Told (comes (refused q) []) len name r bytes name
refused-told len name r bytes q n k z e =
    whole-told len name r bytes name (refused q) [] (Err n) 0 (record { answer = ap Err k; buffer = z ∙ sym (lay-nil len) }) (put-none name 0) e

-- TWO OBJECTS
pub objects-told :
    (c : Counts) (b : Buffers) (d : Counts) (e : Buffers) → Held c b → Held d e → (a : Answer) (x : Buffers) → Call.Linked c b d e lent a x
    → (name₀ name : List ℕ) (named : ℕ) → Put name₀ name 0 named (blamed_row a b.labels b.names) → (len : ℕ) (w : Result ℕ ℕ) (bytes : List ℕ) → MadeStored a x len w bytes
    → (r : Linked) → r ≡ linked_of w named → Told (link_objects len (view c b) (view d e)) len name₀ r bytes name
unfolding link_objects
objects-told c b d e H K a x L name₀ name named p len w bytes s r f =
    let m = link-makes c b d e H K a x L in
    whole-told len name₀ r bytes name _ _ w named (made-whole m len w bytes s) (put_same (blamed-name c b (view d e) a x H.valid m) p) f

-- A LOADED OBJECT
module _ (s : List ℕ) (v : AreBytes s) (a : Answer) (b : Buffers) (l : Loaded lent s a b) where
  module _ (z : a.number ≡ 0) (k : code.Counts) (f : k ≡ counts_in a) where
    pub loaded-held : Held (counts k) b
    loaded-held =
        let t = (by_zero (load-makes s v a b l) z).stands in
        rw f (record { full = t.full; valid = t.valid; good = rw t.is t.good })

    loaded-is : load word_room s ≡ ok (view (counts k) b)
    loaded-is =
        let t = by_zero (load-makes s v a b l) z in
        rw (f, t.stands.is) t.made

    pub second-told : (len : ℕ) (x : Object) (name₀ : List ℕ) (r : Linked) (bytes name : List ℕ) → Told (link_objects len x (view (counts k) b)) len name₀ r bytes name
        → Told (link_second len x (load word_room s)) len name₀ r bytes name
    unfolding link_second
    second-told len x name₀ r bytes name t = rw loaded-is t

    first-told : (len : ℕ) (u : List ℕ) (name₀ : List ℕ) (r : Linked) (bytes name : List ℕ) → Told (link_second len (view (counts k) b) (load word_room u)) len name₀ r bytes name
        → Told (link_stored len s u) len name₀ r bytes name
    unfolding link_stored link_first
    first-told len u name₀ r bytes name t = rw loaded-is t

  module _ (n : a.number ≡ 0 → ⊥) (len : ℕ) (name : List ℕ) (r : Linked) (bytes : List ℕ) (c : bytes ≡ zeros len) (e : r ≡ linked_of (Err a.number) 0) where
    pub second-refused : (x : Object) → Told (link_second len x (load word_room s)) len name r bytes name
    unfolding link_second
    second-refused x =
        let t = by-other (load-makes s v a b l) n in
        rw t.made (refused-told len name r bytes t.refusal a.number t.same c e)

    first-refused : (u : List ℕ) → Told (link_stored len s u) len name r bytes name
    unfolding link_stored link_first
    first-refused u =
        let t = by-other (load-makes s v a b l) n in
        rw t.made (refused-told len name r bytes t.refusal a.number t.same c e)

-- the first object is stored in the first n bytes of t
take-bytes : (n : ℕ) (b : List ℕ) → AreBytes b → AreBytes (take n b)
take-bytes zero b v i = omega arith
take-bytes (suc n) [] v i = omega arith
take-bytes (suc n) (x ∷ b) v zero = v 0
take-bytes (suc n) (x ∷ b) v (suc i) = take-bytes n b (λ j. v (suc j)) i

part_bytes : (n : ℕ) (b : List ℕ) → AreBytes b → AreBytes (part_at b 0 n)
unfolding part_at
part_bytes n b v = take-bytes n b v

module _ (t : List ℕ) (n : ℕ) (v : AreBytes t) (s : List ℕ) (p : s ≡ part_at t 0 (n - 0)) (a : Answer) (b : Buffers) (l : Loaded lent s a b) where
  part-is : s ≡ part_at t 0 n
  part-is = let z : n - 0 ≡ n = omega arith in p ∙ ap (part_at t 0) z

  part-loaded : Loaded lent (part_at t 0 n) a b
  part-loaded = rw part-is at l

  module _ (z : a.number ≡ 0) (k : code.Counts) (f : k ≡ counts_in a) where
    pub part_held : Held (counts k) b
    part_held = loaded-held (part_at t 0 n) (part_bytes n t v) a b part-loaded z k f

    pub part-told : (len : ℕ) (u : List ℕ) (name₀ : List ℕ) (r : Linked) (bytes name : List ℕ) → Told (link_second len (view (counts k) b) (load word_room u)) len name₀ r bytes name
        → Told (link_stored len (part_at t 0 n) u) len name₀ r bytes name
    part-told = first-told (part_at t 0 n) (part_bytes n t v) a b part-loaded z k f

  module _ (m : a.number ≡ 0 → ⊥) (len : ℕ) (name : List ℕ) (r : Linked) (bytes : List ℕ) (c : bytes ≡ zeros len) (e : r ≡ linked_of (Err a.number) 0) where
    pub part-refused : (u : List ℕ) → Told (link_stored len (part_at t 0 n) u) len name r bytes name
    part-refused = first-refused (part_at t 0 n) (part_bytes n t v) a b part-loaded m len name r bytes c e
