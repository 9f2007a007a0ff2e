-- `asm_first_half::first_half` meets its contract. Assumes nothing.
use Rattle.std.proofs.Common.{rules, ◌≡◌, ◌∙◌, sym, Err}
use Rattle.asm_first_half.proofs.Started.{started-short, started-full, started-went, started-stopped}
use Rattle.asm_first_half.proofs.first_half.Goals as goal

pub returns-then-small : goal.returns-then-small
returns-then-small c = search (rules, started-short)

pub returns-then-room-o : goal.returns-then-room-o
returns-then-room-o c = started-full _ _ _ _ _ c.if-small.false _ c.source_tables.ensures _ c.in_ok-o.was c.if-room-o.true _ c.refused-then-room-o.ensures

pub returns : goal.returns
returns c = started-went _ _ _ _ _ c.if-small.false _ c.source_tables.ensures _ c.in_ok-o.was c.if-room-o.false

pub returns-in_err-o : goal.returns-in_err-o
returns-in_err-o c =
    let e : c.from_residual.result ≡ Err c.in_err-o.field-0.0 = search rules in
    let z : c.source_tables.result ≡ c.from_residual.result = c.in_err-o.was ∙ sym e in
    rw z at (started-stopped c.args.small c.args.room c.source_tables.new.labels c.source_tables.new.relocations c.args.src.now c.if-small.false _ c.source_tables.ensures _ c.in_err-o.was)
