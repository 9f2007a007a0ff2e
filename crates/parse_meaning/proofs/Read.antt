-- A statement that was read is the rules' statement. Assumes nothing.
use mathlib.Core.Path.{◌≡◌, refl, ◌∙◌, ap}
use mathlib.Core.Bool.{Bool, true, false, not}
use mathlib.Core.List.{List, [], ◌∷◌}
use mathlib.Core.Logic.{◌⊎◌, inl, inr}
use mathlib.Core.Option.{Option, none, some}
use Prim.Native.Nat.{ℕ, ◌+◌, ◌-◌, ◌≤◌, ◌<◌}
use native.Mathlib.Omega.{arith}
use borrow.Author.Tests.{ne_eqb}
use lib.Dec.{eqb}
use lib.ListN.{length}
use Rattle.rules.specs.Base.{ok}
use Rattle.rules.specs.Tokens.{Token, next_token}
use Rattle.rules.specs.Words.{Op, instr, orig, fill, blkw, stringz, end, external}
use Rattle.rules.specs.Statements.{Name, Target, Given, bare, past_lines, past_labels, labels_at, Read, Stmt, stmt, next_statement}
use Rattle.rules.proofs.Ahead.{token-ends}
use Rattle.rules.proofs.Gave.{gave}
use Rattle.rules.proofs.Inverted.{Rowed, inverted}
use Rattle.rules.proofs.Along.{line-along}
use Rattle.rules.proofs.Following.{statement-goes}
use Rattle.rules.proofs.Bools.{never}
use Rattle.parse_labels.specs.Names.{name_between}
use Rattle.parse_operands.specs.Lines.{reach_of}
use Rattle.parse_rows.specs.declared.Op.TheVariants.{Instr}
use Rattle.parse.specs.declared.Statement.{Statement}
use Rattle.parse.specs.Coded.{coded_op, coded_read}
use Rattle.parse.proofs.Reach.{near-field, far-field, instr-modulus, no_target}
use Rattle.parse_labels.proofs.Texts.{Labels}
use Rattle.parse_meaning.specs.Reading.{meant_op, chars_at, Aimed, Faithful}
use Rattle.parse_meaning.proofs.Tokens.{token-rises}
use Rattle.parse_meaning.proofs.Taken.{Taken, Stands, operands-taken, string-taken}
use Rattle.parse_meaning.proofs.Suited.{Suited, suited}

-- what is shown of the rules' statement by its reading
pub record Known (s : List ℕ) (ls : List Name) (n : ℕ) (x : Stmt) : Type 0 where
  pub labels : x.labels ≡ ls
  pub low : x.bits + (reach_of x.target - 1) < 65536
  pub stands : Stands s x.target
  pub text : x.op ≡ stringz → x.chars ≡ chars_at s (x.quote.start + 1)
  pub rising : x.place.start ≤ x.place.stop
  pub within : x.place.stop ≤ n

module _ (s : List ℕ) where
  accepted-known : (i : ℕ) (ls : List Name) (t : Token) (x : Read) → next_token s i ≡ ok t → Rowed s ls t x → Known s ls x.next x.stmt
  accepted-known i ls t x e a =
      let g : Given = a.given' in
      let k : Suited a.row.op a.row.base a.fields = suited s ls t a.row a.fields a.headed in
      let v : Taken s a.row.base t.place.stop (bare a.row.base t.place.stop) = record { light = omega arith; stands = tt; on = omega arith } in
      let w : Taken s (a.row.base + _) t.place.stop g = operands-taken s a.fields a.other a.row.base (bare a.row.base t.place.stop) g k.each v a.taken in
      rw a.is (record {
        labels = refl;
        low = omega (arith, w.light, k.room);
        stands = w.stands;
        text = λ q. string-taken s a.other (bare a.row.base t.place.stop) g (rw (k.strung q) at a.taken);
        rising = omega (arith, w.on, token-rises s i t e);
        within = line-along s ◌≤◌ (λ i. omega arith) (λ i j k p q. omega arith) (λ i t q. (token-ends s i t q).least) g.stop x.next a.ended;
      })

  pub statement-known : (i : ℕ) (x : Read) → next_statement s i ≡ ok (some x) → Known s (labels_at s i) x.next x.stmt
  unfolding next_statement
  statement-known i x e =
      let u = gave (next_token s (past_lines s (past_labels s i))) _ (some x) e in
      accepted-known (past_lines s (past_labels s i)) (labels_at s i) u.given' x u.first (inverted s (labels_at s i) u.given' (some x) u.then')

-- what the code's word for it means
meant : (o : Op) → o ≡ meant_op (coded_op o)
meant instr = refl
meant orig = refl
meant fill = refl
meant blkw = refl
meant stringz = refl
meant end = refl
meant external = refl

-- the label operand
stands-between : (s : List ℕ) (m : Name) → Labels s m → m ≡ name_between s m.place.start m.place.stop
stands-between s m h = λ c. record { text = h.stands.same c; place = m.place }

module _ (s : List ℕ) (i : ℕ) (x : Read) (e : next_statement s i ≡ ok (some x)) where
  instr-is : coded_op x.stmt.op ≡ Instr → x.stmt.op ≡ instr
  instr-is q = meant x.stmt.op ∙ ap meant_op q

  aimed : (o : Option Target) → x.stmt.target ≡ o → Stands s o → (reach_of o ≡ 0 → ⊥) → Aimed s (coded_read x) o
  unfolding coded_read
  aimed none q h n = absurd (n refl)
  aimed (some t) q h n = record {
    target = t;
    is = refl;
    name = rw q (stands-between s t.name h);
    between = rw q (record { rising = h.stands.rising; within = h.stands.within; small = h.small });
    near = λ a b. near-field s i x t e q (instr-is a) (rw q at b);
    far = λ a b. far-field s i x t e q (instr-is a) (other (instr-modulus s i x t e q (instr-is a)) (rw q at b));
  }
    where
      other : (t.field.modulus ≡ 512) ⊎ (t.field.modulus ≡ 2048) → (t.field.modulus ≡ 512 → ⊥) → t.field.modulus ≡ 2048
      other (inl z) k = absurd (k z)
      other (inr z) k = z

-- a count that is not above zero
no-labels : (ls : List Name) → not (eqb (length ls) 0) ≡ false → ls ≡ []
no-labels [] e = refl
no-labels (l ∷ ls) e =
    let q : eqb (length (l ∷ ls)) 0 ≡ false = ne_eqb (length (l ∷ ls)) 0 (λ (x : length (l ∷ ls) ≡ 0). omega arith) in
    let y : ◌≡◌ {A = Bool} true false = rw q at e in
    never cc

-- THE LAW
pub faithful : (src : List ℕ) (at : ℕ) (x : Read) (st : Statement) → next_statement src at ≡ ok (some x) → coded_read x ≡ st → Faithful src at st x.stmt
unfolding coded_read
faithful src at x st e q =
    let k = statement-known src at x e in
    let g = statement-goes src at x e in
    rw (← q) (record {
      labels = k.labels;
      unlabelled = λ z. no-labels x.stmt.labels z;
      op = meant x.stmt.op;
      bits = refl;
      low = k.low;
      bare = λ z. no_target src at x e z;
      aimed = λ z. aimed src at x e x.stmt.target refl k.stands z;
      text = λ z. k.text (meant x.stmt.op ∙ ap meant_op z);
      place = refl;
      rising = k.rising;
      within = omega (arith, k.within, g.in');
    })
