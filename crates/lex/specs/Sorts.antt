-- What a token as four numbers means in the rules. Assumes nothing.
use Rattle.std.specs.Prelude.{ℕ, zero, suc, ◌-◌, ◌≤◌, ◌<◌, false, List, [], map, ◌≡◌, length, get_or}
use Rattle.std.proofs.Math.Option.{none, some}
use Rattle.rules.specs.Base.{ok, refuse, span}
use Rattle.rules.specs.Tokens.{plus, minus, Kind, number, register, mark, word, upper, token_in, next_token}
use Rattle.rules.specs.Words.{Row, instr, find, instructions}
use Rattle.lex_token.specs.Meant.{part, kind_at}
use Rattle.lex_token.specs.declared.Token.TheVariants.{Directive, String}
use Rattle.lex_token.specs.declared.Lexeme.{Lexeme}
use Rattle.lex_token.specs.Flat.{fault_sort}

-- the word or name at a lexeme's place, in upper case
unfoldable pub name_of : List ℕ → Lexeme → List ℕ
name_of s t = map upper (part s t.start t.end)

-- by the sort: 3 and 5 are words, 10 is the source's end
abbrev pub kind_by : List ℕ → ℕ → Lexeme → Kind
kind_by s zero t = number (plus t.value)
kind_by s (suc zero) t = number (minus t.value)
kind_by s (suc (suc zero)) t = register t.value
kind_by s (suc (suc (suc zero))) t = word (name_of s t)
kind_by s (suc (suc (suc (suc zero)))) t = kind_at s t.start t.end String
kind_by s (suc (suc (suc (suc (suc zero))))) t = word (name_of s t)
kind_by s (suc (suc (suc (suc (suc (suc zero)))))) t = kind_at s t.start t.end Directive
kind_by s (suc (suc (suc (suc (suc (suc (suc zero))))))) t = mark 58
kind_by s (suc (suc (suc (suc (suc (suc (suc (suc zero)))))))) t = mark 44
kind_by s (suc (suc (suc (suc (suc (suc (suc (suc (suc zero))))))))) t = mark 10
kind_by s (suc (suc (suc (suc (suc (suc (suc (suc (suc (suc k)))))))))) t = mark 0

-- no row
abbrev pub no_row : Row
no_row = record { key = []; op = instr; base = 0; fields = []; optional = false }

-- whether a lexeme is a token or a refusal
abbrev pub NoFault : Lexeme → Type 0
NoFault t = t.sort < fault_sort

abbrev pub Fault : Lexeme → Type 0
Fault t = fault_sort ≤ t.sort

-- the token that the lexeme stands for is the next one from i on
pub record Stands (s : List ℕ) (i : ℕ) (t : Lexeme) : Type 0 where
  pub token : NoFault t → next_token s i ≡ ok (token_in (kind_by s t.sort t) (span t.start t.end))
  pub bad : Fault t → next_token s i ≡ refuse t.value (span t.start t.end)
  pub label : t.sort ≡ 3 → find (name_of s t) instructions ≡ none
  pub size : t.sort ≡ 3 → length (name_of s t) ≡ t.end - t.start
  pub reserved : t.sort ≡ 5 → find (name_of s t) instructions ≡ some (get_or instructions t.value no_row)
  pub code : t.sort ≡ 5 → t.value < 32
  pub known : t.sort ≤ fault_sort
