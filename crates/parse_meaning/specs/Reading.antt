-- What a statement, which holds places of the source, says of the rules' statement. Assumes nothing.
use Rattle.std.specs.Prelude.{◌≡◌, false, List, [], ◌∷◌, ℕ, zero, suc, ◌+◌, ◌-◌, ◌≤◌, ◌<◌, length}
use Rattle.std.proofs.Math.Option.{Option, none, some}
use Rattle.rules.specs.Base.{span}
use Rattle.rules.specs.Tokens.{while}
use Rattle.rules.specs.Words.{signed, instr, orig, fill, blkw, stringz, end, external}
use Rattle.rules.specs.Words as words
use Rattle.rules.specs.Statements.{Target, Stmt, labels_at}
use Rattle.parse_labels.specs.Names.{name_between, Between}
use Rattle.base_text.specs.Runs.{in_class, from}
use Rattle.base_text.specs.declared.Class.TheVariants.{Plain}
use Rattle.lex_literals.specs.declared.StringChar.TheVariants.{Char, Done}
use Rattle.lex_literals.specs.Strings.{char_at}
use Rattle.parse_rows.specs.declared.Op.{Op}
use Rattle.parse_rows.specs.declared.Op.TheVariants.{Instr, Orig, Fill, Blkw, Stringz, External}
use Rattle.parse_rows.specs.declared.Op.TheVariants as op
use Rattle.parse.specs.declared.Statement.{Statement}

abbrev pub meant_op : Op → words.Op
meant_op Instr = instr
meant_op Orig = orig
meant_op Fill = fill
meant_op Blkw = blkw
meant_op Stringz = stringz
meant_op op.End = end
meant_op External = external

-- the characters of a string, one by one from a place inside it, at most k; and all of them
unfoldable pub chars_from : ℕ → List ℕ → ℕ → List ℕ
chars_from zero src i = []
chars_from (suc k) src i = elim (char_at i (from src i)) [ Char c j ↦ c ∷ chars_from k src j | Done ↦ [] ]

unfoldable pub chars_at : List ℕ → ℕ → List ℕ
chars_at src i = chars_from (length src - i) src i

-- the plain bytes from a place on
unfoldable pub plain_at : List ℕ → ℕ → List ℕ
plain_at src i = while (in_class Plain) (from src i)

-- there is a label operand, and its name is what stands at its place
pub record Aimed (src : List ℕ) (st : Statement) (o : Option Target) : Type 0 where
  pub target : Target
  pub is : o ≡ some target
  pub name : target.name ≡ name_between src st.label_start st.label_end
  pub between : Between src st.label_start st.label_end
  pub near : st.op ≡ Instr → st.reach ≡ 512 → target.field ≡ signed 9
  pub far : st.op ≡ Instr → (st.reach ≡ 512 → ⊥) → target.field ≡ signed 11

-- s is the rules' statement of st, which was looked for at a place
pub record Faithful (src : List ℕ) (at : ℕ) (st : Statement) (s : Stmt) : Type 0 where
  pub labels : s.labels ≡ labels_at src at
  pub unlabelled : st.labelled ≡ false → s.labels ≡ []
  pub op : s.op ≡ meant_op st.op
  pub bits : s.bits ≡ st.bits
  -- its bits leave room for those of its label operand
  pub low : st.bits + (st.reach - 1) < 65536
  pub bare : st.reach ≡ 0 → s.target ≡ none
  pub aimed : (st.reach ≡ 0 → ⊥) → Aimed src st s.target
  pub text : st.op ≡ Stringz → s.chars ≡ chars_at src (st.text_start + 1)
  pub place : s.place ≡ span st.start st.end
  pub rising : st.start ≤ st.end
  pub within : st.end ≤ length src
