-- A field that is met: room for what it says, and what stands in the buffers when it is put, by its tag. Assumes nothing.
use mathlib.Core.Path.{◌≡◌, refl, sym, ◌∙◌, ap}
use mathlib.Core.List.{List, [], map}
use Prim.Native.Nat.{ℕ, ◌+◌, ◌-◌, ◌*◌, ◌≤◌, ◌<◌}
use native.Mathlib.Omega.{arith}
use lib.ListN.{length, get_or, length-append, length-replicate}
use Rattle.rules.specs.Objects.{Lab, outer, defined, address_of, Name, flat}
use Rattle.rules.specs.Buffers.{Buffers, six, zeros, lay, word_of, mark_of, flag_of, name_bytes, label_cells, row_of, reloc_cells}
use Rattle.rules.specs.Stored.{sets, gap, Item, label, State, next, flatten}
use Rattle.rules.proofs.Laid.{row-of}
use Rattle.rules.proofs.Fits.{long, lent-in-words, lent-in-marks, good_length}
use Rattle.laws_stored.specs.Beginnings.{AreBytes}
use Rattle.laws_stored.specs.Offsets.{number_at, numbers_at, part_at}
use Rattle.laws_stored.proofs.Accepted.{Finds, found-extent}
use Rattle.laws_stored.proofs.Taken.{MayBlock, MayRun, MayLabel, MayReloc, may-block, may-run, may-label, may-reloc}
use Rattle.laws_stored.proofs.Contents.{length-numbers, length_part}
use Rattle.base_buffers.specs.Rows.{with_row}
use Rattle.stored_walk.specs.declared.Walk.{Walk}
use Rattle.stored_walk.specs.Walking.{Tells, Onward}
use Rattle.stored_walk.proofs.Labels.{names-short}
use Rattle.stored_put.specs.Laid.{heads_so_far, cells_so_far, Laid, Meets, Met, Puts, PutWords, WordRoom, LabelRoom, Labelled}
use Rattle.stored_put.proofs.Field.{BlockField, block-field, SetsField, sets-field, DefinedField, defined-field, external-field, RelocField, reloc-field, GapField, gap-field}
use Rattle.stored_put.proofs.Growing.{length-cells, cells-rise, laid-block, laid-sets, laid-gap, laid-label, laid-reloc}

-- a buffer is as long as the one that it is laid in
lay-long : (l : List ℕ) (len : ℕ) → len ≤ length (lay l len)
lay-long l len = omega (arith, length-append l (zeros (len - length l)), length-replicate {A = ℕ} (len - length l) 0)

-- the words that a walk counts are those that stand there
words-told : {b places : List ℕ} {w : Walk} {s : State} → Tells b places w s → w.words ≡ length (cells_so_far s)
unfolding cells_so_far
words-told {s = s} t = t.words ∙ sym (length-append (flat s.blocks) (flatten s.runs))

pub words-rise : {b places places' : List ℕ} {w : Walk} {s : State} {r : Walk} → Tells b places w s → Onward b places' w s r → w.words ≤ r.words
words-rise {s = s} t o = omega (arith, words-told t, words-told o.tells, cells-rise s o.item t.shut o.allowed)

module _ {b places places' : List ℕ} {w : Walk} {s : State} {r : Walk} {out x : Buffers} (m : Meets b places places' w s r out x) where
  bytes : AreBytes b
  bytes = m.tells.checks.bytes

  found : Finds b w.at m.onward.item r.at
  found = m.onward.found

  -- the field is there
  head-there : w.at + 3 ≤ length b
  head-there = let u = found-extent b w.at m.onward.item r.at found in omega (arith, u.after, u.within)

  behind-there : r.at ≤ length b
  behind-there = (found-extent b w.at m.onward.item r.at found).within

  words_before : w.words ≡ length (cells_so_far s)
  words_before = words-told m.tells

  words-behind : r.words ≡ length (cells_so_far (next s m.onward.item))
  words-behind = words-told m.onward.tells

  words-fit : r.words ≤ length out.words
  words-fit = omega (arith, m.room, lent-in-words out.words out.marks)

  marks-fit : r.words ≤ length out.marks
  marks-fit = omega (arith, m.room, lent-in-marks out.words out.marks)

  -- buffers are as long as those that were lent
  long-blocks : length out.blocks ≤ length x.blocks
  long-blocks = rw m.laid.blocks (lay-long (heads_so_far s) (length out.blocks))

  long-words : length out.words ≤ length x.words
  long-words = rw m.laid.words (lay-long (map word_of (cells_so_far s)) (length out.words))

  long-marks : length out.marks ≤ length x.marks
  long-marks = rw m.laid.marks (lay-long (map mark_of (cells_so_far s)) (length out.marks))

  long-labels : length out.labels ≤ length x.labels
  long-labels = rw m.laid.labels (lay-long (label_cells 0 s.labels) (length out.labels))

  long-relocs : length out.relocs ≤ length x.relocs
  long-relocs = rw m.laid.relocs (lay-long (reloc_cells s.labels s.relocs) (length out.relocs))

  long-names : length out.names ≤ length x.names
  long-names = rw m.laid.names (lay-long (name_bytes s.labels) (length out.names))

  -- X01
  module _ (e : get_or b w.at 0 ≡ 1) where
    block-is : BlockField b w.at m.onward.item
    block-is = block-field b w.at m.onward.item r.at bytes found e

    block-may : MayBlock s (number_at b (w.at + 3)) (number_at b (w.at + 3 + 2))
    block-may = may-block s (number_at b (w.at + 3)) (number_at b (w.at + 3 + 2)) (rw block-is.says at m.onward.allowed)

    block_row : w.blocks ≡ length s.blocks
    block_row = m.tells.blocks ∙ rw block-may.closed refl

    block_room_lem : w.blocks * 2 + 1 < length out.blocks
    block_room_lem = omega (arith, block_row, block-may.room, (long out m.full).blocks)

    block-put : (bs : List ℕ) → bs ≡ with_row x.blocks w.blocks (number_at b (w.at + 3)) (number_at b (w.at + 3 + 2)) → Laid (next s m.onward.item) out (six bs x.words x.marks x.labels x.relocs x.names)
    block-put bs q = rw block-is.says (laid-block m.laid (number_at b (w.at + 3)) (number_at b (w.at + 3 + 2)) w.blocks bs block-may (m.tells.shut block-may.closed) block_row block_room_lem q)

  -- X02
  module _ (e : get_or b w.at 0 ≡ 2) where
    sets-is : SetsField b w.at m.onward.item
    sets-is = sets-field b w.at m.onward.item r.at bytes found e

    sets-may : MayRun s (sets (numbers_at b (w.at + 3) sets-is.count))
    sets-may = may-run s (sets (numbers_at b (w.at + 3) sets-is.count)) (rw sets-is.says at m.onward.allowed)

    sets-count : r.words ≡ w.words + sets-is.count
    sets-count =
        let h : length (cells_so_far (next s m.onward.item)) ≡ length (cells_so_far s) + length (numbers_at b (w.at + 3) sets-is.count) = ap (λ (i : Item). length (cells_so_far (next s i))) sets-is.says ∙ length-cells s (sets (numbers_at b (w.at + 3) sets-is.count)) in
        omega (arith, words_before, words-behind, h, length-numbers b (w.at + 3) sets-is.count)

    sets-room : WordRoom b (w.at + 3) (r.words - w.words) x.words x.marks w.words
    sets-room =
        let d = sets-count in
        record { there = omega (arith, sets-is.there); words = omega (arith, words-fit, long-words); marks = omega (arith, marks-fit, long-marks) }

    sets-put : (ws ms : List ℕ) → PutWords b (w.at + 3) (r.words - w.words) x.words x.marks ws ms w.words → Laid (next s m.onward.item) out (six x.blocks ws ms x.labels x.relocs x.names)
    sets-put ws ms p =
        let d = sets-count in
        let n : r.words - w.words ≡ sets-is.count = omega arith in
        let p' : PutWords b (w.at + 3) sets-is.count x.words x.marks ws ms w.words = rw n at p in
        rw sets-is.says
        (laid-sets m.laid (numbers_at b (w.at + 3) sets-is.count) w.words sets-is.count ws ms m.tells.checks.along sets-may (sym (length-numbers b (w.at + 3) sets-is.count)) words_before (omega (arith, words-fit)) (omega (arith, marks-fit)) p'.words p'.marks)

  -- a label's row and its name
  module _ (n : Name) (u : Lab) (q : m.onward.item ≡ label n u) where
    label-may : MayLabel s n
    label-may = may-label s n u (rw q at m.onward.allowed)

    label-rows : w.labels * 4 + 4 ≤ length out.labels
    label-rows = omega (arith, m.tells.labels, label-may.room, (long out m.full).labels)

    label-low : w.named + length n ≤ 65536
    label-low = omega (arith, m.tells.labels, m.tells.named, label-may.room, names-short [] s.last s.labels m.tells.checks.kept.names, good_length n label-may.named)

    label-room : LabelRoom x.labels x.names w.labels w.named (length n)
    label-room = record { row = omega (arith, label-rows, long-labels); place = omega (arith, label-low, (long out m.full).names, long-names); small = label-low }

    label-put : (a f : ℕ) (ls ns : List ℕ) → a ≡ address_of u → f ≡ flag_of u → Labelled x.labels x.names ls ns w.labels w.named a f n → Laid (next s m.onward.item) out (six x.blocks x.words x.marks ls x.relocs ns)
    label-put a f ls ns d e p =
        let p' : Labelled x.labels x.names ls ns w.labels w.named (address_of u) (flag_of u) n = rw (d, e) at p in
        rw q (laid-label m.laid n u w.labels w.named (w.named + length n) ls ns label-may m.tells.labels m.tells.named label-rows (omega (arith, label-low, (long out m.full).names)) p'.put)

  -- X04
  module _ (e : get_or b w.at 0 ≡ 4) where
    defined-is : DefinedField b w.at m.onward.item r.at
    defined-is = defined-field b w.at m.onward.item r.at bytes found e

    defined-size : length (part_at b (w.at + 3 + 2) (r.at - (w.at + 3 + 2))) ≡ r.at - (w.at + 3 + 2)
    defined-size = length_part b (w.at + 3 + 2) (r.at - (w.at + 3 + 2)) (omega (arith, defined-is.there, behind-there))

    defined-room : LabelRoom x.labels x.names w.labels w.named (r.at - (w.at + 3 + 2))
    defined-room = rw defined-size at (label-room (part_at b (w.at + 3 + 2) (r.at - (w.at + 3 + 2))) (defined (number_at b (w.at + 3))) defined-is.says)

    defined-put : (ls ns : List ℕ) → Labelled x.labels x.names ls ns w.labels w.named (number_at b (w.at + 3)) 0 (part_at b (w.at + 3 + 2) (r.at - (w.at + 3 + 2))) → Laid (next s m.onward.item) out (six x.blocks x.words x.marks ls x.relocs ns)
    defined-put ls ns p = label-put (part_at b (w.at + 3 + 2) (r.at - (w.at + 3 + 2))) (defined (number_at b (w.at + 3))) defined-is.says (number_at b (w.at + 3)) 0 ls ns refl refl p

  -- X05
  module _ (e : get_or b w.at 0 ≡ 5) where
    external-is : m.onward.item ≡ label (part_at b (w.at + 3) (r.at - (w.at + 3))) outer
    external-is = external-field b w.at m.onward.item r.at bytes found e

    external-size : length (part_at b (w.at + 3) (r.at - (w.at + 3))) ≡ r.at - (w.at + 3)
    external-size = length_part b (w.at + 3) (r.at - (w.at + 3)) (omega (arith, head-there, behind-there))

    external-room : LabelRoom x.labels x.names w.labels w.named (r.at - (w.at + 3))
    external-room = rw external-size at (label-room (part_at b (w.at + 3) (r.at - (w.at + 3))) outer external-is)

    external-put : (ls ns : List ℕ) → Labelled x.labels x.names ls ns w.labels w.named 0 1 (part_at b (w.at + 3) (r.at - (w.at + 3))) → Laid (next s m.onward.item) out (six x.blocks x.words x.marks ls x.relocs ns)
    external-put ls ns p = label-put (part_at b (w.at + 3) (r.at - (w.at + 3))) outer external-is 0 1 ls ns refl refl p

  -- X06
  module _ (e : get_or b w.at 0 ≡ 6) where
    reloc-is : RelocField b w.at m.onward.item
    reloc-is = reloc-field b w.at m.onward.item r.at bytes found e

    reloc-may : MayReloc s (number_at b (w.at + 3)) reloc-is.name
    reloc-may = may-reloc s (number_at b (w.at + 3)) reloc-is.name (rw reloc-is.says at m.onward.allowed)

    reloc-row : r.row ≡ row_of s.labels reloc-is.name
    reloc-row = rw reloc-is.says at m.onward.row

    reloc-low : r.row ≤ 262144
    reloc-low = omega (arith, reloc-row, (row-of s.labels reloc-is.name outer ([], outer) reloc-may.outside).0, m.tells.checks.kept.few_labels)

    reloc-room : w.relocations * 2 + 1 < length out.relocs
    reloc-room = omega (arith, m.tells.relocations, reloc-may.room, (long out m.full).relocs)

    reloc-put : (rs : List ℕ) → rs ≡ with_row x.relocs w.relocations (number_at b (w.at + 3)) r.row → Laid (next s m.onward.item) out (six x.blocks x.words x.marks x.labels rs x.names)
    reloc-put rs q = rw reloc-is.says (laid-reloc m.laid (number_at b (w.at + 3)) reloc-is.name w.relocations r.row rs m.tells.relocations reloc-row reloc-room q)

  -- X03
  module _ (n1 : get_or b w.at 0 ≡ 1 → ⊥) (n2 : get_or b w.at 0 ≡ 2 → ⊥) (n4 : get_or b w.at 0 ≡ 4 → ⊥) (n5 : get_or b w.at 0 ≡ 5 → ⊥) (n6 : get_or b w.at 0 ≡ 6 → ⊥) where
    gap_is : GapField m.onward.item
    gap_is = gap-field b w.at n1 n2 n4 n5 n6 m.onward.item r.at bytes found m.onward.more

    gap-put : Laid (next s m.onward.item) out x
    gap-put =
        let h : length (cells_so_far (next s m.onward.item)) ≡ length (cells_so_far s) + gap_is.count = ap (λ (i : Item). length (cells_so_far (next s i))) gap_is.says ∙ length-cells s (gap gap_is.count) in
        rw gap_is.says
        (laid-gap m.laid gap_is.count m.tells.checks.along (may-run s (gap gap_is.count) (rw gap_is.says at m.onward.allowed)) (omega (arith, words-behind, h, words-fit)) (omega (arith, words-behind, h, marks-fit)))

-- OF SOME STATE: what the code asks before it puts a field

module _ {b : List ℕ} {w r : Walk} {bs ws ms ls rs ns : List ℕ} (m : Met b w r (six bs ws ms ls rs ns)) where
  pub tag_in : w.at < length b
  tag_in = omega (arith, head-there m.meets)

  module _ (e : get_or b w.at 0 ≡ 1) where
    pub block_in : w.at + 3 + 4 ≤ length b
    block_in = (block-is m.meets e).there

    pub block-fits : w.blocks * 2 + 1 < length bs
    block-fits = omega (arith, block_room_lem m.meets e, long-blocks m.meets)

  module _ (e : get_or b w.at 0 ≡ 2) where
    pub sets-up : w.words ≤ r.words
    sets-up = omega (arith, sets-count m.meets e)

    pub sets-fit : WordRoom b (w.at + 3) (r.words - w.words) ws ms w.words
    sets-fit = sets-room m.meets e

  module _ (e : get_or b w.at 0 ≡ 4) where
    pub defined-in : w.at + 3 + 2 ≤ length b
    defined-in = (defined-is m.meets e).there

    pub defined-fits : LabelRoom ls ns w.labels w.named (r.at - (w.at + 3 + 2))
    defined-fits = defined-room m.meets e

  pub external-fits : get_or b w.at 0 ≡ 5 → LabelRoom ls ns w.labels w.named (r.at - (w.at + 3))
  external-fits e = external-room m.meets e

  module _ (e : get_or b w.at 0 ≡ 6) where
    pub reloc-in : w.at + 3 + 2 ≤ length b
    reloc-in = (reloc-is m.meets e).there

    pub reloc-fits : w.relocations * 2 + 1 < length rs
    reloc-fits = omega (arith, reloc-room m.meets e, long-relocs m.meets)

    pub reloc-small : r.row ≤ 262144
    reloc-small = reloc-low m.meets e

-- AND WHAT STANDS IN THE BUFFERS WHEN IT IS PUT

module _ {b : List ℕ} {w r : Walk} {bs ws ms ls rs ns : List ℕ} where
  pub puts-block : {bs' : List ℕ} → get_or b w.at 0 ≡ 1 → bs' ≡ with_row bs w.blocks (number_at b (w.at + 3)) (number_at b (w.at + 3 + 2)) → Puts b w r (six bs ws ms ls rs ns) (six bs' ws ms ls rs ns)
  puts-block {bs'} e q = record { laid = λ p p' s out m. block-put m e bs' q }

  pub puts-sets : {ws' ms' : List ℕ} → get_or b w.at 0 ≡ 2 → PutWords b (w.at + 3) (r.words - w.words) ws ms ws' ms' w.words → Puts b w r (six bs ws ms ls rs ns) (six bs ws' ms' ls rs ns)
  puts-sets {ws'} {ms'} e q = record { laid = λ p p' s out m. sets-put m e ws' ms' q }

  pub puts-defined : {ls' ns' : List ℕ} → get_or b w.at 0 ≡ 4 → Labelled ls ns ls' ns' w.labels w.named (number_at b (w.at + 3)) 0 (part_at b (w.at + 3 + 2) (r.at - (w.at + 3 + 2))) → Puts b w r (six bs ws ms ls rs ns) (six bs ws ms ls' rs ns')
  puts-defined {ls'} {ns'} e q = record { laid = λ p p' s out m. defined-put m e ls' ns' q }

  pub puts-external : {ls' ns' : List ℕ} → get_or b w.at 0 ≡ 5 → Labelled ls ns ls' ns' w.labels w.named 0 1 (part_at b (w.at + 3) (r.at - (w.at + 3))) → Puts b w r (six bs ws ms ls rs ns) (six bs ws ms ls' rs ns')
  puts-external {ls'} {ns'} e q = record { laid = λ p p' s out m. external-put m e ls' ns' q }

  pub puts-reloc : {rs' : List ℕ} → get_or b w.at 0 ≡ 6 → rs' ≡ with_row rs w.relocations (number_at b (w.at + 3)) r.row → Puts b w r (six bs ws ms ls rs ns) (six bs ws ms ls rs' ns)
  puts-reloc {rs'} e q = record { laid = λ p p' s out m. reloc-put m e rs' q }

  pub puts-gap : (get_or b w.at 0 ≡ 1 → ⊥) → (get_or b w.at 0 ≡ 2 → ⊥) → (get_or b w.at 0 ≡ 4 → ⊥) → (get_or b w.at 0 ≡ 5 → ⊥) → (get_or b w.at 0 ≡ 6 → ⊥) → Puts b w r (six bs ws ms ls rs ns) (six bs ws ms ls rs ns)
  puts-gap n1 n2 n4 n5 n6 = record { laid = λ p p' s out m. gap-put m n1 n2 n4 n5 n6 }
