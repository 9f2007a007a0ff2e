-- A whole source: 12 by its bytes, and the walk over its tokens, one token on. Assumes nothing.
use Rattle.std.specs.declared.result.Result.{Result}
use Rattle.std.specs.declared.result.Result.TheVariants.{Ok, Err}
use Rattle.base_refusals.specs.declared.Fault.{Fault}
use Rattle.base_refusals.specs.Refusals.{fault}
use Prim.Native.Nat.{ℕ, zero, suc, ◌+◌, ◌-◌, ◌≤◌, ◌<◌}
use mathlib.Core.Path.{◌≡◌, refl, ap, ◌∙◌, sym, subst}
use mathlib.Core.Bool.{Bool, true, false}
use mathlib.Core.List.{List}
use mathlib.Core.Logic.{⊎_elim}
use native.Mathlib.Nat.{not-suc-le-zero, le_refl}
use native.Mathlib.Omega.{arith}
use lib.Dec.{ltb, eqb}
use borrow.Author.Tests.{ltb-true, ltb-false, eqb-true, eqb-false}
use lib.ListN.{length, get_or, take, drop, drop_of_length-le}
use lib.Seq.{length-take-le, get_or-take, take-length}
use Rattle.rules.specs.Base.{when◌then◌else◌, Outcome, ok, refuse, span, verdict}
use Rattle.rules.specs.Tokens.{token_in, mark, next_token, ascii, lexed}
use Rattle.rules.proofs.Walk.{tokens_on, onward, tokens-end, tokens-onward, Moves, next-moves, whole_on, whole-start, ascii-low, ascii-high}
use Rattle.rules.proofs.Bools.{never}
use Rattle.base_text.specs.Runs.{in_class, run_end}
use Rattle.base_text.specs.declared.Class.TheVariants as class
use Rattle.base_text.proofs.RunLaws.{run_in, run_out, run_past}
use Rattle.lex_token.specs.Meant.{kind_at}
use Rattle.lex_token.specs.declared.Lexeme.{Lexeme}
use Rattle.lex.specs.Sorts.{kind_by, Stands}
use Rattle.lex_token.specs.declared.Token.{Token}
use Rattle.lex_token.specs.declared.Token.TheVariants.{Unsigned, Signed, Reg, Ident, Directive, String, Colon, Comma, NewLine}
use Rattle.lex_source.specs.Lexed.{meant_lexed, stop, unless_high}

-- a part up to e, looked through for a byte above x7F
module _ (s p : List ℕ) (e : ℕ) (q : p ≡ take e s) (k : e ≤ length s) where
  abbrev upto : ℕ → ℕ
  upto at = run_end class.Ascii p at

  part-long : length p ≡ e
  part-long = ap length q ∙ length-take-le e s k

  part_at : (i : ℕ) → i < e → get_or p i 0 ≡ get_or s i 0
  part_at i h = ap (λ (l : List ℕ). get_or l i 0) q ∙ get_or-take e s i 0 h

  Looked : ℕ → Type 0
  Looked at = (upto at < e → ascii at (drop at s) ≡ refuse 12 (span (upto at) (upto at + 1))) × (at ≤ e → e ≤ upto at → ascii at (drop at s) ≡ ascii e (drop e s))

  looked : (room at : ℕ) → e - at < room → Looked at
  unfolding Looked in_class
  looked zero at h = absurd (not-suc-le-zero h)
  looked (suc room) at h = go (ltb at e) refl (ltb (get_or s at 0) 128) refl (λ l. looked room (at + 1) (omega arith))
    where
      go : (a : Bool) → ltb at e ≡ a → (b : Bool) → ltb (get_or s at 0) 128 ≡ b → (at < e → Looked (at + 1)) → Looked at
      go false a b c r =
          let l : e ≤ at = ltb-false _ _ a in
          let z : upto at ≡ at = run_past class.Ascii p at (omega (arith, part-long)) in
          (λ x. absurd (omega arith), λ x y. let w : at ≡ e = omega arith in ap (λ (n : ℕ). ascii n (drop n s)) w)
      go true a true c r =
          let l : at < e = ltb-true _ _ a in
          let z : upto at ≡ upto (at + 1) = run_in class.Ascii p at (omega (arith, part-long)) (ap (λ (n : ℕ). ltb n 128) (part_at at l) ∙ c) in
          let low : ascii at (drop at s) ≡ ascii (at + 1) (drop (at + 1) s) = ascii-low s at (omega arith) (ltb-true _ _ c) in
          (λ x. low ∙ (r l).0 (omega arith) ∙ ap (λ (n : ℕ). refuse 12 (span n (n + 1))) (sym z), λ x y. low ∙ (r l).1 (omega arith) (omega arith))
      go true a false c r =
          let l : at < e = ltb-true _ _ a in
          let z : upto at ≡ at = run_out class.Ascii p at (omega (arith, part-long)) (ap (λ (n : ℕ). ltb n 128) (part_at at l) ∙ c) in
          (λ x. ascii-high s at (omega arith) (ltb-false _ _ c) ∙ ap (λ (n : ℕ). refuse 12 (span n (n + 1))) (sym z), λ x y. absurd (omega arith))

  module _ (at : ℕ) {j : ℕ} (f : j ≡ run_end class.Ascii p at) where
    pub high-in : j < e → ascii at (drop at s) ≡ refuse 12 (span j (j + 1))
    unfolding Looked
    high-in h = (looked (e - at + 1) at (omega arith)).0 (omega arith) ∙ ap (λ (n : ℕ). refuse 12 (span n (n + 1))) (sym f)

    pub high-none : at ≤ e → e ≤ j → ascii at (drop at s) ≡ ascii e (drop e s)
    unfolding Looked
    high-none h l = (looked (e - at + 1) at (omega arith)).1 h (omega arith)

-- a token's kind is not the end of the source
kind-token : (s : List ℕ) (a e : ℕ) (t : Token) → kind_at s a e t ≡ mark 0 → ⊥
unfolding kind_at
kind-token s a e (Unsigned n) p = never cc
kind-token s a e (Signed n) p = never cc
kind-token s a e (Reg n) p = never cc
kind-token s a e (Ident i) p = never cc
kind-token s a e Directive p = never cc
kind-token s a e String p = never cc
kind-token s a e Colon p = let z : ◌≡◌ {A = ℕ} 58 0 = cc in omega arith
kind-token s a e Comma p = let z : ◌≡◌ {A = ℕ} 44 0 = cc in omega arith
kind-token s a e NewLine p = let z : ◌≡◌ {A = ℕ} 10 0 = cc in omega arith

-- nor is that of a lexeme
sort-token : (s : List ℕ) (n : ℕ) (t : Lexeme) → n < 10 → kind_by s n t ≡ mark 0 → ⊥
sort-token s zero t h p = never cc
sort-token s (suc zero) t h p = never cc
sort-token s (suc (suc zero)) t h p = never cc
sort-token s (suc (suc (suc zero))) t h p = never cc
sort-token s (suc (suc (suc (suc zero)))) t h p = kind-token s t.start t.end String p
sort-token s (suc (suc (suc (suc (suc zero))))) t h p = never cc
sort-token s (suc (suc (suc (suc (suc (suc zero)))))) t h p = kind-token s t.start t.end Directive p
sort-token s (suc (suc (suc (suc (suc (suc (suc zero))))))) t h p = let z : ◌≡◌ {A = ℕ} 58 0 = cc in omega arith
sort-token s (suc (suc (suc (suc (suc (suc (suc (suc zero)))))))) t h p = let z : ◌≡◌ {A = ℕ} 44 0 = cc in omega arith
sort-token s (suc (suc (suc (suc (suc (suc (suc (suc (suc zero))))))))) t h p = let z : ◌≡◌ {A = ℕ} 10 0 = cc in omega arith
sort-token s (suc (suc (suc (suc (suc (suc (suc (suc (suc (suc k)))))))))) t h p = absurd (omega arith)

module _ (s : List ℕ) (at : ℕ) (t : Lexeme) (y : Stands s at t) where
  -- a token
  module _ (h : t.sort < 10) where
    here : next_token s at ≡ ok (token_in (kind_by s t.sort t) (span t.start t.end))
    here = y.token (omega (arith, h))

    moved : (at < t.end) × (t.end ≤ length s)
    moved = ⊎_elim (λ p. absurd (sort-token s t.sort t h p.0)) (λ p. (p.1, p.2)) (subst (Moves s at) here (next-moves s at))

    pub walk-less : length s - t.end < length s - at
    walk-less = let p = moved in omega arith

    pub walk-on : {z : Outcome (Unit {0})} → tokens_on s at ≡ z → tokens_on s t.end ≡ z
    unfolding onward
    walk-on g = sym (tokens-onward s at ∙ ap (onward s) here) ∙ g

  -- the end of the source, or a refusal
  pub walk-stop : {z : Outcome (Unit {0})} {r : Result (Unit {0}) Fault} → 10 ≤ t.sort → tokens_on s at ≡ z → r ≡ stop t → meant_lexed r ≡ z
  unfolding stop meant_lexed onward when◌then◌else◌
  walk-stop {z} {r} h g f = ap meant_lexed f ∙ go (eqb t.sort 10) refl ∙ g
    where
      go : (b : Bool) → eqb t.sort 10 ≡ b → meant_lexed (when b then Ok tt else Err (fault t.value t.start t.end)) ≡ tokens_on s at
      go true e =
          let q : t.sort ≡ 10 = eqb-true _ _ e in
          let k : next_token s at ≡ ok (token_in (mark 0) (span t.start t.end)) = y.token (omega (arith, q)) ∙ rw q in
          let l : length s ≤ t.end = ⊎_elim (λ p. p.1) (λ p. absurd (p.0 refl)) (subst (Moves s at) k (next-moves s at)) in
          sym (tokens-onward s at ∙ ap (onward s) k ∙ tokens-end s t.end l)
      go false e =
          let n : t.sort ≡ 10 → ⊥ = eqb-false _ _ e in
          let k : next_token s at ≡ refuse t.value (span t.start t.end) = y.bad (omega (arith, n, h)) in
          sym (tokens-onward s at ∙ ap (onward s) k)

module _ (s : List ℕ) (at : ℕ) where
  -- what is left of the source
  module _ {j : ℕ} (h : at ≤ length s) (f : j ≡ run_end class.Ascii s at) where
    pub rest-high : (o : Outcome (Unit {0})) → j < length s → meant_lexed (Err (fault 12 j (j + 1))) ≡ unless_high s at o
    unfolding unless_high meant_lexed
    rest-high o l = sym (rw (high-in s s (length s) (sym (take-length s)) (omega arith) at f l))

    pub rest-none : (o : Outcome (Unit {0})) → length s ≤ j → o ≡ unless_high s at o
    unfolding unless_high ascii
    rest-none o l = sym (rw (high-none s s (length s) (sym (take-length s)) (omega arith) at f h l, drop_of_length-le s (le_refl (length s))))

-- the whole source: 12, then the tokens
module _ (s : List ℕ) (l : length s ≤ 262144) {j : ℕ} (f : j ≡ run_end class.Ascii s 0) where
  pub whole-high : j < length s → meant_lexed (Err (fault 12 j (j + 1))) ≡ verdict (lexed s)
  unfolding whole_on unless_high
  whole-high h = rest-high s 0 (omega arith) f (tokens_on s 0) h ∙ whole-start s l

  pub whole-low : {x : Outcome (Unit {0})} → length s ≤ j → x ≡ tokens_on s 0 → x ≡ verdict (lexed s)
  unfolding whole_on unless_high
  whole-low h e = e ∙ rest-none s 0 (omega arith) f (tokens_on s 0) h ∙ whole-start s l
