-- `lex_source::stopped` meets its contract. Assumes nothing.
use borrow.Author.Tests.{eq-eqb, ne_eqb}
use Rattle.rules.specs.Base.{when◌then◌else◌}
use Rattle.lex_source.specs.Lexed.{stop}
use Rattle.lex_source.proofs.stopped.Goals as goal

pub returns-then-t-eq-END : goal.returns-then-t-eq-END
unfolding stop when◌then◌else◌
returns-then-t-eq-END c = rw (eq-eqb _ _ c.if-t-eq-END.true)

pub returns : goal.returns
unfolding stop when◌then◌else◌
returns c = rw (ne_eqb _ _ c.if-t-eq-END.false)
