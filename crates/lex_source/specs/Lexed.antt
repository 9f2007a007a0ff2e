-- What the code's answers on a whole source mean in the rules. Assumes nothing.
use Rattle.std.specs.declared.result.Result.{Result}
use Rattle.std.specs.declared.result.Result.TheVariants.{Ok, Err}
use Rattle.base_refusals.specs.declared.Fault.{Fault}
use Rattle.base_refusals.specs.Refusals.{fault}
use Rattle.std.specs.Prelude.{ℕ, List, eqb, drop}
use Rattle.rules.specs.Base.{when◌then◌else◌, Outcome, ok, refuse, ◌>>◌, span}
use Rattle.rules.specs.Tokens.{ascii}
use Rattle.lex_token.specs.declared.Lexeme.{Lexeme}

unfoldable pub meant_lexed : Result (Unit {0}) Fault → Outcome (Unit {0})
meant_lexed (Ok u) = ok tt
meant_lexed (Err f) = refuse f.number (span f.start f.end)

-- where a walk over tokens stops: at the end of the source, or at a refusal
unfoldable pub stop : Lexeme → Result (Unit {0}) Fault
stop t = when eqb t.sort 10 then Ok tt else Err (fault t.value t.start t.end)

-- 12 from a place on goes before another answer
unfoldable pub unless_high : List ℕ → ℕ → Outcome (Unit {0}) → Outcome (Unit {0})
unless_high s i o = ascii i (drop i s) >> o
