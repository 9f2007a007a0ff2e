-- What a load answers and leaves. Assumes nothing.
use Rattle.std.specs.Prelude.{Result, Ok, Err}
use mathlib.Core.Path.{◌≡◌, refl, sym, ◌∙◌, ap}
use mathlib.Core.Bool.{true, false}
use mathlib.Core.List.{List, []}
use Prim.Native.Nat.{ℕ, ◌≤◌}
use native.Mathlib.Omega.{arith}
use native.Mathlib.Decide.{dec_le}
use lib.ListN.{length}
use Rattle.rules.specs.Base.{when◌then◌else◌, ok, refuse, nowhere, offset_at}
use Rattle.rules.specs.Answers as rule
use Rattle.rules.specs.Objects as Objects
use Rattle.rules.specs.Objects.{Object, nothing, counts_of}
use Rattle.rules.specs.Buffers.{Buffers, short, lent_words, lay_blocks, lay_words, lay_marks, lay_labels, lay_relocs, lay_names, layout}
use Rattle.rules.specs.Stored.{load}
use Rattle.rules.specs.Calls.{of_bytes}
use Rattle.rules.proofs.Rows.{length-lay}
use Rattle.laws_stored.proofs.Checking.{load-fifty, load-whole, load-no-room}
use Rattle.object.specs.declared.Counts.{Counts}
use Rattle.object.specs.Meaning.{counts}
use Rattle.object_answer.specs.declared.Answer.{Answer}
use Rattle.object_answer.specs.Meant.{meant, Leaves}
use Rattle.object_answer.proofs.Leaving.{leaves-refused}
use Rattle.stored_load.specs.Filling.{Lengths, Lent, Came, Refuses, Settles}
use Rattle.stored_load.specs.Call.{called, Loaded}

-- LENGTHS are all that a layout asks of buffers

layout-same : {out x : Buffers} → Lengths out x → (o : Object) → layout o x ≡ layout o out
layout-same l o = rw (l.blocks, l.words, l.marks, l.labels, l.relocs, l.names) refl

cleared-lengths : (out x : Buffers) → x ≡ layout nothing out → Lengths out x
unfolding lay_blocks lay_words lay_marks lay_labels lay_relocs lay_names
cleared-lengths out x e = rw e (record {
  blocks = length-lay [] (length out.blocks) (omega arith);
  words = length-lay [] (length out.words) (omega arith);
  marks = length-lay [] (length out.marks) (omega arith);
  labels = length-lay [] (length out.labels) (omega arith);
  relocs = length-lay [] (length out.relocs) (omega arith);
  names = length-lay [] (length out.names) (omega arith);
})

-- CLEARED

module _ {room : ℕ} {out x : Buffers} (l : Lent room out) (e : x ≡ layout nothing out) where
  pub cleared-lent : Lent room x
  unfolding short lent_words
  cleared-lent =
      let d = cleared-lengths out x e in
      record { full = rw (d.blocks, d.labels, d.relocs, d.names) l.full; words = l.words ∙ rw (d.words, d.marks) refl }

  pub cleared-clear : x ≡ layout nothing x
  cleared-clear = e ∙ sym (layout-same (cleared-lengths out x e) nothing)

pub came-after : {b : List ℕ} {room : ℕ} {out x y : Buffers} {r : Result Counts ℕ} → x ≡ layout nothing out → Came b room x y r → Came b room out y r
came-after {out = out} {x = x} e c =
    let d = cleared-lengths out x e in
    record {
      lengths = record {
        blocks = c.lengths.blocks ∙ d.blocks;
        words = c.lengths.words ∙ d.words;
        marks = c.lengths.marks ∙ d.marks;
        labels = c.lengths.labels ∙ d.labels;
        relocs = c.lengths.relocs ∙ d.relocs;
        names = c.lengths.names ∙ d.names;
      };
      filled = λ k q. (
          let f = c.filled k q in
          record { object = f.object; checked = f.checked; counted = f.counted; laid = λ h. f.laid h ∙ layout-same d f.object });
      broken = c.broken;
    }

-- THE CALL

called-long : (out : Buffers) (b : List ℕ) → short out ≡ false → called out b ≡ load (lent_words out.words out.marks) b
unfolding called of_bytes when◌then◌else◌
called-long out b e = rw e refl

called-short : (out : Buffers) (b : List ℕ) → short out ≡ true → called out b ≡ refuse 42 nowhere
unfolding called of_bytes when◌then◌else◌
called-short out b e = rw e refl

-- a refusal leaves every buffer zero
refused-leaves : (n k : ℕ) (out : Buffers) (r : Answer) (z : Buffers) → Refuses n k out r z → Leaves (refuse n (offset_at k)) out r z
refused-leaves n k out r z h = leaves-refused n k k 0 0 out z h.buffers r h.answer

refused-after : {n k : ℕ} {out y z : Buffers} {r : Answer} → Lengths out y → Refuses n k y r z → Refuses n k out r z
refused-after l h = record { answer = h.answer; buffers = h.buffers ∙ layout-same l nothing }

module _ {b : List ℕ} {room : ℕ} {out y z : Buffers} {f : Result Counts ℕ} {r : Answer} (full : short out ≡ false) (lent : room ≡ lent_words out.words out.marks) (c : Came b room out y f) (s : Settles f room y r z) where
  words_of : (k : Counts) (o : Object) → counts k ≡ counts_of o → k.words ≡ (counts_of o).words
  words_of k o e = ap (λ (d : Objects.Counts). d.words) e

  whole-loaded : (k : Counts) → f ≡ Ok k → Dec (k.words ≤ room) → Loaded out b r z
  unfolding rule.answer
  whole-loaded k e (yes h) =
      let u = c.filled k e in
      let a = s.fits k e h in
      let q : called out b ≡ ok u.object = called-long out b full ∙ load-whole (lent_words out.words out.marks) b u.object u.checked (omega (arith, words_of k u.object u.counted)) in
      rw q (record { answer = ap meant a.answer ∙ ap rule.accepted u.counted; buffers = a.buffers ∙ u.laid h })
  whole-loaded k e (no h) =
      let u = c.filled k e in
      let q : called out b ≡ refuse 41 (offset_at 0) = called-long out b full ∙ load-no-room (lent_words out.words out.marks) b u.object u.checked (omega (arith, words_of k u.object u.counted)) in
      rw q (refused-leaves 41 0 out r z (refused-after c.lengths (s.not k e (omega arith))))

  broken-loaded : (k : ℕ) → f ≡ Err k → Loaded out b r z
  broken-loaded k e =
      let q : called out b ≡ refuse 50 (offset_at k) = called-long out b full ∙ load-fifty (lent_words out.words out.marks) b k (c.broken k e) in
      rw q (refused-leaves 50 k out r z (refused-after c.lengths (s.broken k e)))

  pub settled : Loaded out b r z
  settled = go f refl
    where
      go : (g : Result Counts ℕ) → f ≡ g → Loaded out b r z
      go (Ok k) e = whole-loaded k e (dec_le k.words room)
      go (Err k) e = broken-loaded k e

pub too_short : (b : List ℕ) {out z : Buffers} {r : Answer} → short out ≡ true → Refuses 42 0 out r z → Loaded out b r z
too_short b {out} {z} {r} e h =
    let q : called out b ≡ refuse 42 (offset_at 0) = called-short out b e in
    rw q (refused-leaves 42 0 out r z h)
