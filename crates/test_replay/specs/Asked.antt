-- An answer that a line asks for, read and compared. Assumes nothing.
use Rattle.std.specs.Prelude.{ℕ, ◌%◌, Bool, ◌&&◌, List, eqb}
use Rattle.object_answer.specs.declared.Answer.{Answer}
use Rattle.test_support.specs.Fields.{decimal_at}
use Rattle.test_replay.specs.declared.Lacking.{Lacking}
use Rattle.test_replay.specs.declared.Expected.{Expected}

-- six numbers from a place on: how much each buffer lacks
unfoldable pub lacking_at : List ℕ → ℕ → Lacking
lacking_at s i =
    let a = decimal_at s i in
    let b = decimal_at s a.next in
    let c = decimal_at s b.next in
    let d = decimal_at s c.next in
    let e = decimal_at s d.next in
    let f = decimal_at s e.next in
    record { blocks = a.value; words = b.value; marks = c.value; labels = d.value; relocations = e.value; names = f.value; next = f.next }

-- nine numbers from a place on: an answer; a refusal's number has sixteen bits
unfoldable pub expected_at : List ℕ → ℕ → Expected
expected_at s i =
    let a = decimal_at s i in
    let b = decimal_at s a.next in
    let c = decimal_at s b.next in
    let d = decimal_at s c.next in
    let e = decimal_at s d.next in
    let f = decimal_at s e.next in
    let g = decimal_at s f.next in
    let h = decimal_at s g.next in
    let j = decimal_at s h.next in
    record {
      answer = record {
        number = a.value % 65536;
        start = b.value;
        end = c.value;
        start2 = d.value;
        end2 = e.value;
        blocks = f.value;
        words = g.value;
        labels = h.value;
        relocations = j.value;
      };
      next = j.next;
    }

-- two answers are the same, number by number
unfoldable pub same_answer : Answer → Answer → Bool
same_answer a b =
    eqb a.number b.number
    && eqb a.start b.start
    && eqb a.end b.end
    && eqb a.start2 b.start2
    && eqb a.end2 b.end2
    && eqb a.blocks b.blocks
    && eqb a.words b.words
    && eqb a.labels b.labels
    && eqb a.relocations b.relocations
