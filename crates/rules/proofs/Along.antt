-- What holds from the place before each token to the place after it holds along the operands of a statement, to its line's end. Assumes nothing.
use Prim.Native.Nat.{ℕ}
use mathlib.Core.Path.{◌≡◌, refl, sym, ◌∙◌, ap}
use mathlib.Core.Bool.{Bool, true, false}
use mathlib.Core.List.{List, [], ◌∷◌}
use Rattle.rules.specs.Base.{ok, require, ◌>>=◌, Span}
use Rattle.rules.specs.Tokens.{Token, next_token}
use Rattle.rules.specs.Words.{Field}
use Rattle.rules.specs.Statements.{Name, Piece, bits, target, chars, Given, bare, add, is_mark, operand, ends, operand_at, comma_at, more_from, operands_from, line_end, Read}
use Rattle.rules.proofs.Bools.{never}
use Rattle.rules.proofs.Gave.{gave}
use Rattle.rules.proofs.Inverted.{Rowed}

add-stop : (g : Given) (p : Piece) (i : ℕ) → (add g p i).stop ≡ i
unfolding add
add-stop g (bits n) i = refl
add-stop g (target t) i = refl
add-stop g (chars c q) i = refl

marked : (b : Bool) (n : ℕ) (p : Span) (i j : ℕ) → (require b n p >>= λ x. ok i) ≡ ok j → i ≡ j
marked true n p i j e = cc
marked false n p i j e = never cc

module _ (s : List ℕ) (R : ℕ → ℕ → Type 0) (rest : (i : ℕ) → R i i) (on : (i j k : ℕ) → R i j → R j k → R i k) (token : (i : ℕ) (t : Token) → next_token s i ≡ ok t → R i t.place.stop) where
  operand-along : (f : Field) (other : ℕ) (g h : Given) (i : ℕ) → operand_at s f other g i ≡ ok h → R i h.stop
  unfolding operand_at
  operand-along f other g h i e =
      let u = gave (next_token s i) _ h e in
      let w = gave (operand f other u.given') _ h u.then' in
      let q : add g w.given' u.given'.place.stop ≡ h = cc w.then' in
      let r : h.stop ≡ u.given'.place.stop = ap (λ (x : Given). x.stop) (sym q) ∙ add-stop g w.given' u.given'.place.stop in
      rw r (token i u.given' u.first)

  mark-along : (p : Token → Bool) (i j : ℕ) → (next_token s i >>= λ t. require (p t) 13 t.place >>= λ x. ok t.place.stop) ≡ ok j → R i j
  mark-along p i j e =
      let u = gave (next_token s i) _ j e in
      rw (← marked (p u.given') 13 u.given'.place u.given'.place.stop j u.then') (token i u.given' u.first)

  more-along : (fs : List Field) (other : ℕ) (g h : Given) → more_from s fs other g ≡ ok h → R g.stop h.stop
  unfolding more_from comma_at
  more-along [] other g h e = let q : g ≡ h = cc in rw (← q) (rest g.stop)
  more-along (f ∷ fs) other g h e =
      let u = gave (comma_at s g.stop) _ h e in
      let w = gave (operand_at s f other g u.given') _ h u.then' in
      on _ _ _ (mark-along (λ t. is_mark 44 t.kind) g.stop u.given' u.first) (on _ _ _ (operand-along f other g w.given' u.given' w.first) (more-along fs other w.given' h w.then'))

  operands-along : (fs : List Field) (other : ℕ) (g h : Given) → operands_from s fs other g ≡ ok h → R g.stop h.stop
  unfolding operands_from
  operands-along [] other g h e = let q : g ≡ h = cc in rw (← q) (rest g.stop)
  operands-along (f ∷ fs) other g h e =
      let u = gave (operand_at s f other g g.stop) _ h e in
      on _ _ _ (operand-along f other g u.given' g.stop u.first) (more-along fs other u.given' h u.then')

  pub line-along : (i j : ℕ) → line_end s i ≡ ok j → R i j
  unfolding line_end
  line-along i j e = mark-along (λ t. ends t.kind) i j e

  -- from a statement's first token on
  pub row-along : (ls : List Name) (t : Token) (x : Read) → Rowed s ls t x → R t.place.stop x.next
  row-along ls t x r = on _ _ _ (operands-along r.fields r.other (bare r.row.base t.place.stop) r.given' r.taken) (line-along r.given'.stop x.next r.ended)
