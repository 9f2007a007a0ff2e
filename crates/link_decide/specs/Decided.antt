-- What is decided of a link before anything is written. Assumes nothing.
use Rattle.std.specs.declared.result.Result.{Result}
use Rattle.std.specs.declared.result.Result.TheVariants.{Ok, Err}
use Rattle.base_refusals.specs.declared.Fault.{Fault}
use Rattle.base_refusals.specs.Refusals.{fault}
use Rattle.std.specs.Prelude.{◌≡◌, Bool, true, false, ◌||◌, List, ℕ, ◌+◌, ◌≤◌, ltb, length}
use Rattle.rules.specs.Base.{when◌then◌else◌, Outcome, ok, Refusal, refused, refuse, span}
use Rattle.rules.specs.Objects as Objects
use Rattle.rules.specs.Objects.{Object, counts_of}
use Rattle.rules.specs.Buffers.{tab, head_row, Buffers, short, view, Valid}
use Rattle.rules.specs.Calls.{Answered}
use Rattle.rules.specs.Linking.{link, all_labels}
use Rattle.object.specs.declared.Counts.{Counts}
use Rattle.object.specs.Meaning.{counts}
use Rattle.object_check.specs.declared.ObjectErr.{ObjectErr}
use Rattle.object_check.specs.declared.ObjectErr.TheVariants.{ShortBuffer, BadObject}
use Rattle.link_notes.specs.Notes.{Noted, carried_rows}
use Rattle.link_blocks.specs.Meeting.{BlockRows, meeting}
use Rattle.link_labels.specs.Matching.{both_labels, both_agree, MatchReady, BothNoted}
use Rattle.link_relocations.specs.Open.{open_rows, Carried}

-- THE ANSWER

-- the decision in the rules' words: the counts of the result, or the refusal
abbrev pub said : Result Counts Fault → Outcome Objects.Counts
said (Ok c) = ok (counts c)
said (Err f) = refuse f.number (span f.start f.end)

-- what the rule says, with the counts of the object that it makes
abbrev pub counted : Outcome Object → Outcome Objects.Counts
counted (ok o) = ok (counts_of o)
counted (refused r) = refused r

-- of two lent objects, of buffers that are too short or not (`small`), of `room` lent words
pub record Decided (c : Objects.Counts) (b : Buffers) (d : Objects.Counts) (e : Buffers) (small : Bool) (room : ℕ) (r : Result Counts Fault) (notes1 notes2 : List ℕ) : Type 0 where
  pub answer : Answered (short b || short e || small) (Valid c b × Valid d e) (counted (link room (view c b) (view d e))) (said r)
  -- where the answer is a link, each label row of either has its note
  pub noted1 : (k : Counts) → r ≡ Ok k → Noted (all_labels (view c b) (view d e)) b.labels b.names c.labels notes1
  pub noted2 : (k : Counts) → r ≡ Ok k → Noted (all_labels (view c b) (view d e)) e.labels e.names d.labels notes2

-- ITS STEPS

-- 42 for any of the three, then 43
unfoldable pub given : Result (Unit {0}) ObjectErr → Result (Unit {0}) ObjectErr → Bool → Result (Unit {0}) ObjectErr
given first second true = Err ShortBuffer
given (Err ShortBuffer) second false = Err ShortBuffer
given (Ok u) second false = second
given (Err BadObject) (Err ShortBuffer) false = Err ShortBuffer
given (Err BadObject) (Ok u) false = Err BadObject
given (Err BadObject) (Err BadObject) false = Err BadObject

-- 40, then 41
unfoldable pub weighed : Counts → ℕ → Result Counts Fault
weighed c room =
    when ltb 64 c.blocks || ltb 1024 c.labels || ltb 1024 c.relocations then Err (fault 40 0 0) else (when ltb room c.words then Err (fault 41 0 0) else Ok c)

-- the counts of the result
abbrev pub tallied : Counts → Counts → ℕ → ℕ → ℕ → Counts
tallied c d rows open1 open2 = record { blocks = c.blocks + d.blocks; words = c.words + d.words; labels = rows; relocations = open1 + open2 }

-- numbers that can be added
pub record Small (c d : Counts) : Type 0 where
  pub blocks1 : c.blocks ≤ 64
  pub blocks2 : d.blocks ≤ 64
  pub words1 : c.words ≤ 65024
  pub words2 : d.words ≤ 65024
  pub relocs1 : c.relocations ≤ 1024
  pub relocs2 : d.relocations ≤ 1024

-- what judging two objects asks: tables as 43 demands them, and room for their notes
pub record JudgeReady (c : Counts) (bs ls rs ns : List ℕ) (d : Counts) (cs ms qs os xs ys : List ℕ) : Type 0 where
  pub blocks1 : BlockRows c.blocks bs
  pub blocks2 : BlockRows d.blocks cs
  pub labels : MatchReady c.labels ls ns d.labels ms os xs ys
  pub relocs1 : Carried c.relocations rs xs
  pub relocs2 : Carried d.relocations qs ys
  pub few : Small c d

-- how many of n relocations stay open
abbrev pub open_count : ℕ → List ℕ → List ℕ → ℕ
open_count n rs xs = length (open_rows (carried_rows n rs xs))

-- what judging them answers
pub record Judged (c : Counts) (bs ls rs ns : List ℕ) (d : Counts) (cs ms qs os : List ℕ) (room : ℕ) (r : Result Counts Fault) (xs ys : List ℕ) : Type 0 where
  -- 28
  pub meets : meeting (tab c.blocks (head_row bs)) (tab d.blocks (head_row cs)) ≡ true → r ≡ Err (fault 28 0 0)
  -- else 25
  pub differs : meeting (tab c.blocks (head_row bs)) (tab d.blocks (head_row cs)) ≡ false → (q : Refusal) → both_agree c.labels ls ns d.labels ms os ≡ refused q → said r ≡ refused q
  -- else 40, 41 or a link, and notes
  pub weighs : meeting (tab c.blocks (head_row bs)) (tab d.blocks (head_row cs)) ≡ false → both_agree c.labels ls ns d.labels ms os ≡ ok tt
      → r ≡ weighed (tallied c d (length (both_labels c.labels ls ns d.labels ms os)) (open_count c.relocations rs xs) (open_count d.relocations qs ys)) room
  pub noted : meeting (tab c.blocks (head_row bs)) (tab d.blocks (head_row cs)) ≡ false → both_agree c.labels ls ns d.labels ms os ≡ ok tt
      → BothNoted c.labels ls ns d.labels ms os (length (both_labels c.labels ls ns d.labels ms os)) xs ys
