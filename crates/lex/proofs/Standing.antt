-- A token told as the code tells it stands for the rules' token. Assumes nothing.
use Prim.Native.Nat.{ℕ, suc, ◌+◌, ◌-◌, ◌≤◌, ◌<◌}
use mathlib.Core.Path.{◌≡◌, refl, sym, ◌∙◌, ap}
use mathlib.Core.Bool.{Bool, true, false}
use mathlib.Core.List.{List, [], ◌∷◌, map}
use mathlib.Core.Option.{Option, none, some}
use native.Mathlib.Nat.{sub-zero}
use native.Mathlib.Omega.{arith}
use lib.ListN.{length, take, drop, get_or, length-drop, length-map}
use lib.Seq.{length-take-le}
use Rattle.rules.specs.Base.{when◌then◌else◌, ok, span, same}
use Rattle.rules.specs.Tokens.{word, upper, token_in, next_token}
use Rattle.rules.specs.Words.{Row, find, instructions}
use Rattle.rules.specs.Statements.{is_mark}
use Rattle.rules.proofs.Ahead.{Ends, token-ends}
use Rattle.rules.proofs.Bools.{never}
use Rattle.rules.proofs.Instructions.{instructions-count}
use Rattle.lex_reserved.specs.Ident.{place_from, ident_of}
use Rattle.lex_reserved.specs.declared.Ident.{Ident}
use Rattle.lex_reserved.specs.declared.Ident.TheVariants.{Reserved, Label}
use Rattle.lex_token.specs.Meant.{part, kind_at, meant}
use Rattle.lex_token.specs.Coded.{coded, coded_as}
use Rattle.lex_token.specs.declared.Token.TheVariants as tok
use Rattle.lex_token.specs.declared.Next.{Next}
use Rattle.lex_token.specs.declared.Next.TheVariants.{Took, End, Refused}
use Rattle.lex_token.specs.declared.Lexeme.{Lexeme}
use Rattle.lex_token.specs.Flat.{fault_sort, lexeme, flat_ident, flat_next}
use Rattle.lex_token.proofs.MeantCoded.{meant-coded}
use Rattle.lex.specs.Sorts.{name_of, kind_by, no_row, Stands}

-- the row of a word is the row of its code
no-row : (k : ℕ) (w : List ℕ) (rs : List Row) → place_from k w rs ≡ Label → find w rs ≡ none
unfolding place_from find when◌then◌else◌
no-row k w [] e = refl
no-row k w (r ∷ rs) e = go (same w r.key) e (no-row (k + 1) w rs)
  where
    go : (b : Bool) → (when b then Reserved k else place_from (k + 1) w rs) ≡ Label → (place_from (k + 1) w rs ≡ Label → find w rs ≡ none) → ◌≡◌ {A = Option Row} (elim b [ true ↦ some r | false ↦ find w rs ]) none
    go true q ih = never cc
    go false q ih = ih q

record Placed (k j : ℕ) (w : List ℕ) (rs : List Row) : Type 0 where
  pub least : k ≤ j
  pub most : j < k + length rs
  pub row : find w rs ≡ some (get_or rs (j - k) no_row)

a-row : (k j : ℕ) (w : List ℕ) (rs : List Row) → place_from k w rs ≡ Reserved j → Placed k j w rs
unfolding place_from find when◌then◌else◌
a-row k j w [] e = never cc
a-row k j w (r ∷ rs) e = go (same w r.key) refl e (a-row (k + 1) j w rs)
  where
    go : (b : Bool) → same w r.key ≡ b → (when b then Reserved k else place_from (k + 1) w rs) ≡ Reserved j → (place_from (k + 1) w rs ≡ Reserved j → Placed (k + 1) j w rs) → Placed k j w (r ∷ rs)
    go true b q ih =
        let e : k ≡ j = cc in
        let z : j - k ≡ 0 = omega arith in
        record { least = omega arith; most = omega arith; row = rw (b, z, find) }
    go false b q ih =
        let p = ih q in
        let z : j - k ≡ suc (j - (k + 1)) = omega (arith, p.least) in
        record { least = omega (arith, p.least); most = omega (arith, p.most); row = rw (b, z, find) p.row }

module _ (s : List ℕ) (i a e : ℕ) where
  -- a word is what it is told to be
  told : (d : Ident) → Took (tok.Ident d) a e ≡ coded (next_token s i) → meant s (Took (tok.Ident d) a e) ≡ next_token s i → d ≡ ident_of (map upper (part s a e))
  unfolding meant kind_at coded coded_as
  told d t m = let q : Took (tok.Ident d) a e ≡ Took (tok.Ident (ident_of (map upper (part s a e)))) a e = t ∙ ap coded (sym m) in cc

  sized : (d : Ident) → meant s (Took (tok.Ident d) a e) ≡ next_token s i → length (map upper (part s a e)) ≡ e - a
  unfolding meant kind_at is_mark part
  sized d m =
      let t : Ends (length s) i (token_in (word (map upper (take (e - a) (drop a s)))) (span a e)) = token-ends s i _ (sym m) in
      length-map (take (e - a) (drop a s)) upper ∙ length-take-le (e - a) (drop a s) (omega (arith, t.most refl, length-drop a s))

module _ (s : List ℕ) (i : ℕ) where
  plain : (k v a e : ℕ) → k < fault_sort → (k ≡ 3 → ⊥) → (k ≡ 5 → ⊥) → ok (token_in (kind_by s k (lexeme k v a e)) (span a e)) ≡ next_token s i → Stands s i (lexeme k v a e)
  plain k v a e l p q h = record {
    token = λ x. sym h;
    bad = λ x. absurd (omega arith);
    label = λ x. absurd (p x);
    size = λ x. absurd (p x);
    reserved = λ x. absurd (q x);
    code = λ x. absurd (q x);
    known = omega arith;
  }

  worded : (d : Ident) (a e : ℕ) → Took (tok.Ident d) a e ≡ coded (next_token s i) → meant s (Took (tok.Ident d) a e) ≡ next_token s i → Stands s i (flat_ident d a e)
  unfolding meant kind_at name_of ident_of
  worded (Reserved k) a e t m =
      let p : Placed 0 k (map upper (part s a e)) instructions = a-row 0 k (map upper (part s a e)) instructions (sym (told s i a e (Reserved k) t m)) in
      record {
        token = λ x. sym m;
        bad = λ x. absurd (omega arith);
        label = λ x. absurd (omega arith);
        size = λ x. absurd (omega arith);
        reserved = λ x. rw (sub-zero k) at p.row;
        code = λ x. few p.most;
        known = omega arith;
      }
    where
      few : k < 0 + length instructions → k < 32
      few h = omega (arith, h, instructions-count)
  worded Label a e t m = record {
    token = λ x. sym m;
    bad = λ x. absurd (omega arith);
    label = λ x. no-row 0 (map upper (part s a e)) instructions (sym (told s i a e Label t m));
    size = λ x. sized s i a e Label m;
    reserved = λ x. absurd (omega arith);
    code = λ x. absurd (omega arith);
    known = omega arith;
  }

  pub stands : (x : Next) → x ≡ coded (next_token s i) → meant s x ≡ next_token s i → Stands s i (flat_next x)
  unfolding meant kind_at
  stands (Took (tok.Unsigned n) a e) t m = plain 0 n a e (omega arith) (λ x. omega arith) (λ x. omega arith) m
  stands (Took (tok.Signed n) a e) t m = plain 1 n a e (omega arith) (λ x. omega arith) (λ x. omega arith) m
  stands (Took (tok.Reg n) a e) t m = plain 2 n a e (omega arith) (λ x. omega arith) (λ x. omega arith) m
  stands (Took (tok.Ident d) a e) t m = worded d a e t m
  stands (Took tok.Directive a e) t m = plain 6 0 a e (omega arith) (λ x. omega arith) (λ x. omega arith) m
  stands (Took tok.String a e) t m = plain 4 0 a e (omega arith) (λ x. omega arith) (λ x. omega arith) m
  stands (Took tok.Colon a e) t m = plain 7 0 a e (omega arith) (λ x. omega arith) (λ x. omega arith) m
  stands (Took tok.Comma a e) t m = plain 8 0 a e (omega arith) (λ x. omega arith) (λ x. omega arith) m
  stands (Took tok.NewLine a e) t m = plain 9 0 a e (omega arith) (λ x. omega arith) (λ x. omega arith) m
  stands (End j) t m = plain 10 0 j j (omega arith) (λ x. omega arith) (λ x. omega arith) m
  stands (Refused n a e) t m = record {
    token = λ x. absurd (omega arith);
    bad = λ x. sym m;
    label = λ x. absurd (omega arith);
    size = λ x. absurd (omega arith);
    reserved = λ x. absurd (omega arith);
    code = λ x. absurd (omega arith);
    known = omega arith;
  }

  pub stands-flat : (t : Lexeme) → t ≡ flat_next (coded (next_token s i)) → Stands s i t
  stands-flat t e = rw e (stands (coded (next_token s i)) refl (meant-coded s i))
