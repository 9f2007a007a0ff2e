-- Newlines and labels as the code walks them. Assumes nothing.
use Rattle.std.specs.Prelude.{ℕ, ◌-◌, Bool, false, ◌&&◌, ◌||◌, not, List, ◌≡◌, eqb, leb, length}
use Rattle.std.proofs.Math.Option.{Option, none, some}
use Rattle.rules.specs.Base.{when◌then◌else◌, is, ok}
use Rattle.rules.specs.Tokens.{Token, next_token}
use Rattle.rules.specs.Statements.{Name, is_mark, ends, token_is, stop_at, past_lines, past_label, past_labels, name_at, labels_at}
use Rattle.lex_token.specs.declared.Lexeme.{Lexeme}
use Rattle.lex.specs.Sorts.{Stands}
use Rattle.parse_labels.specs.declared.Label.{Label}
use Rattle.parse_labels.specs.declared.Label.TheVariants.{At, Nothing}
use Rattle.parse_labels.specs.declared.NextLabel.{NextLabel}
use Rattle.parse_labels.specs.declared.NextLabel.TheVariants as next
use Rattle.parse_labels.specs.declared.Walk.{Walk}

-- past a newline, where one stands
unfoldable pub after_line : List ℕ → ℕ → ℕ
after_line s i = when token_is (is_mark 10) s i then stop_at s i else i

-- a byte that a newline may begin with, or a comment before it: LF, CR, semicolon
unfoldable pub leads_line : ℕ → Bool
leads_line c = is "\n" c || is "\r" c || is ";" c

-- a label token by its place
unfoldable pub placed : Option Name → Label
placed none = Nothing
placed (some n) = At n.place.start n.place.stop

-- the label at a place
unfoldable pub label_here : List ℕ → ℕ → Label
label_here s i = placed (name_at s i)

-- the first label from a place on, and where to look for the next
unfoldable pub labelled : Option Name → ℕ → NextLabel
labelled none j = next.Done
labelled (some n) j = next.Label n.place.start n.place.stop j

unfoldable pub label_from : List ℕ → ℕ → NextLabel
label_from s i = labelled (name_at s (past_lines s i)) (past_label s i)

-- a token that is a label of at most 64 bytes
unfoldable pub is_label : Lexeme → Bool
is_label t = eqb t.sort 3 && leb (t.end - t.start) 64

-- a label, a newline, or a colon where one may stand
unfoldable pub is_before : Lexeme → (colon : Bool) → Bool
is_before t colon = (is_label t || eqb t.sort 9) || (colon && eqb t.sort 7)

-- the walk over labels from i ends at the token after them and newlines, and says whether there were any
pub record Walked (s : List ℕ) (i : ℕ) (w : Walk) : Type 0 where
  pub token : Stands s (past_lines s (past_labels s i)) w.token
  pub labelled : w.labelled ≡ not (eqb (length (labels_at s i)) 0)

-- the first token after labels and newlines from i is not the source's end, and begins at `head`
pub record Heads (s : List ℕ) (i head : ℕ) : Type 0 where
  pub token : Token
  pub is : next_token s (past_lines s (past_labels s i)) ≡ ok token
  pub more : ends token.kind ≡ false
  pub start : token.place.start ≡ head
