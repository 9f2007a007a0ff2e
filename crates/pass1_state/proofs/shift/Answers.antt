-- `pass1_state::shift` meets its contract. Assumes nothing.
use mathlib.Core.Path.{refl}
use Rattle.pass1_state.proofs.Counting.{step-none, step-on, step-27, step-26, step-outside}
use Rattle.pass1_state.proofs.shift.Goals as goal

pub returns-then-size-eq0 : goal.returns-then-size-eq0
returns-then-size-eq0 c = step-none _ c.requires.0 _ _ _ c.if-o.true c.if-size-eq0.true

pub returns-then-counter-le-IO_START : goal.returns-then-counter-le-IO_START
returns-then-counter-le-IO_START c = step-on _ c.requires.0 _ _ _ c.if-o.true c.if-size-eq0.false _ _ c.counted.ensures refl c.if-counter-le-IO_START.true

pub returns-then-counter-le-ADDRESSES : goal.returns-then-counter-le-ADDRESSES
returns-then-counter-le-ADDRESSES c = step-27 _ c.requires.0 _ _ _ c.if-o.true c.if-size-eq0.false _ _ c.refused.ensures refl c.if-counter-le-IO_START.false c.if-counter-le-ADDRESSES.true

pub returns-then-o : goal.returns-then-o
returns-then-o c = step-26 _ c.requires.0 _ _ _ c.if-o.true c.if-size-eq0.false _ _ c.refused-then-o.ensures refl c.if-counter-le-ADDRESSES.false

pub returns : goal.returns
returns c = step-outside _ c.requires.0 _ _ _ c.if-o.false
