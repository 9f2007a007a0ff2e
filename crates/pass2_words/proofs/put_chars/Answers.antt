-- `pass2_words::put_chars` meets its contract. Assumes nothing.
use borrow.Author.Rules.{rules}
use Rattle.parse_meaning.proofs.Chars.{run-size, run-after}
use Rattle.pass2_words.proofs.Chars.{putting-start, run_room_lem, behind-room, behind-fits, behind-less, behind-on, behind-done}
use Rattle.pass2_words.proofs.put_chars.Goals as goal

pub loop-byte-init : goal.loop-byte-init
loop-byte-init c = search (rules, putting-start)

pub overflow_sub-run : goal.overflow_sub-run
overflow_sub-run c = search (rules, run-after)

pub overflow_add-k : goal.overflow_add-k
overflow_add-k c = let h = run_room_lem _ _ _ _ _ _ _ _ _ c.loop-byte.invariant _ c.plain_end-stop.ensures in search rules

pub push-requires : goal.push-requires
push-requires c = search (rules, behind-room)

pub overflow_add-k-in-Char : goal.overflow_add-k-in-Char
overflow_add-k-in-Char c =
    let h = behind-fits _ _ _ _ _ _ _ _ _ _ _ _ _ c.loop-byte.invariant c.plain_end-stop.ensures c.put_plain.ensures (search rules) (search rules) c.string_char.ensures _ _ c.in-Char.is in
    search rules

pub loop-byte-smaller : goal.loop-byte-smaller
loop-byte-smaller c = search (rules, behind-less)

pub loop-byte-preserved : goal.loop-byte-preserved
loop-byte-preserved c = behind-on _ _ _ _ _ _ _ _ _ _ _ _ _ c.loop-byte.invariant c.plain_end-stop.ensures c.put_plain.ensures (search rules) (search rules) c.string_char.ensures _ _ c.in-Char.is _ _ _ c.from.ensures c.push.ensures (search rules) (search rules)

pub returns-in-Done : goal.returns-in-Done
returns-in-Done c = behind-done _ _ _ _ _ _ _ _ _ _ _ _ _ c.loop-byte.invariant c.plain_end-stop.ensures c.put_plain.ensures (search rules) (search rules) c.string_char.ensures c.in-Done.is

pub put_plain-requires : goal.put_plain-requires
put_plain-requires c = search (rules, run-size, run_room_lem)
