-- What each way through a search by keys and through `add_symbol` shows. Assumes nothing.
use Rattle.std.specs.declared.result.Result.{Result}
use Rattle.std.specs.declared.result.Result.TheVariants.{Ok, Err}
use Rattle.std.specs.declared.option.Option.TheVariants.{Some, None}
use mathlib.Core.Path.{◌≡◌, refl, sym, ◌∙◌, ap}
use mathlib.Core.Bool.{Bool, true, false}
use mathlib.Core.Option.{Option, none, some}
use mathlib.Core.List.{List, map}
use Prim.Native.Nat.{ℕ, zero, suc, ◌+◌, ◌*◌, ◌≤◌, ◌<◌}
use native.Mathlib.Decide.{dec_lt}
use native.Mathlib.Omega.{arith}
use lib.Dec.{eqb, ltb}
use lib.ListN.{length, get_or}
use borrow.Author.Tests.{eq-eqb, ne_eqb, lt-ltb, le-ltb}
use Rattle.rules.specs.Base.{when◌then◌else◌, Outcome, ok, refuse, refuse2, Span}
use Rattle.rules.specs.Tokens.{upper}
use Rattle.rules.specs.Tables.{Table, look, insert, newer, name_order, before_irr}
use Rattle.rules.specs.Objects.{Lab, address_of, Name}
use Rattle.rules.specs.Statements as S
use Rattle.rules.specs.Passes.{Symbol, symbol, add_label}
use Rattle.rules.specs.Buffers.{lab_from}
use Rattle.rules.proofs.Rows.{length-tab, look-tab, look_none, sorted-tab}
use Rattle.rules.proofs.Bools.{never}
use Rattle.base_text.specs.Names.{ordered}
use Rattle.std.specs.declared.cmp.Ordering.TheVariants.{Less, Greater}
use Rattle.base_keys.specs.Keys.{key_of}
use Rattle.base_keys.proofs.KeyLaws.{key-less, key_more}
use Rattle.parse_labels.specs.Names.{name_from}
use Rattle.object.specs.Slots.{upper_name, Rising, Slotted}
use Rattle.pass1_symbols.specs.Symbols.{symbol_row, symbols, key_row, KeyedRow, Growing, InsertAt, Inserted}
use Rattle.pass1_symbols.specs.Adding.{named_at, Ready, Adding, Found}
use Rattle.pass1_symbols.specs.declared.AddErr.{AddErr}
use Rattle.pass1_symbols.specs.declared.AddErr.TheVariants.{Clash, Full}

pub rising : {rs src : List ℕ} {n : ℕ} → Growing rs src n → Rising rs src n
rising v = record { up = record { next = v.up.next } }

-- the order by keys
module _ {rs src : List ℕ} (name : List ℕ) {k key held : ℕ} (v : KeyedRow rs src k) (p : key ≡ key_of (map upper name)) (q : held ≡ key_row rs k) where
  pub keyed-less : held < key → Less ≡ ordered (upper_name rs src k) (map upper name)
  keyed-less h = key-less (upper_name rs src k) (map upper name) (q ∙ v.key) p h

  pub keyed-more : key < held → Greater ≡ ordered (upper_name rs src k) (map upper name)
  keyed-more h = key_more (upper_name rs src k) (map upper name) (q ∙ v.key) p h

module _ {rs src : List ℕ} {n a f s l : ℕ} {r : Result ℕ ℕ} (v : Ready rs src n a f s l) (t : Slotted rs src n (name_from src s l) r) where
  pub taken_in : {k : ℕ} → r ≡ Ok k → k * 4 + 4 ≤ length rs
  taken_in {k} e = omega (arith, v.table.few, v.table.room, (t.taken k e).0)

  pub free-at : {p : ℕ} → r ≡ Err p → n < 1024 → InsertAt rs src n p a f s l
  free-at {p} e h = record {
    table = v.table;
    row = v.row;
    within = t.within p e;
    new = h;
    below = t.below p e;
    above = t.above p e;
  }

-- the address of a row's cells
address-of : (a f : ℕ) → f ≤ 1 → (f ≡ 1 → a ≡ 0) → address_of (lab_from a f) ≡ a
address-of a zero h o = refl
address-of a (suc f) h o = sym (o (omega arith))

-- what the table says of the name
said : (rs src : List ℕ) (n k : ℕ) (x : Name) → Growing rs src n → k < n → (symbol_row rs src k).0 ≡ x → look name_order (symbols n rs src) x ≡ some (symbol_row rs src k).1
unfolding symbols
said rs src n k x v l e = rw (← e) (look-tab name_order n (symbol_row rs src) (sorted-tab name_order n (symbol_row rs src) v.up) k l)

unsaid : (rs src : List ℕ) (n p : ℕ) (x : Name) {r : Result ℕ ℕ} → Slotted rs src n x r → r ≡ Err p → look name_order (symbols n rs src) x ≡ none
unfolding symbols
unsaid rs src n p x t e = look_none name_order n (symbol_row rs src) x go
  where
    go : (k : ℕ) → k < n → x ≡ (symbol_row rs src k).0 → ⊥
    go k b q = elim (dec_lt k p) [
      | yes d ↦ before_irr x (rw (← q) at (t.below p e k d))
      | no d ↦ before_irr x (rw (← q) at (t.above p e k (omega arith) b))
    ]

module _ {rs src : List ℕ} {n : ℕ} {x : Name} {r : Result ℕ ℕ} (v : Growing rs src n) (t : Slotted rs src n x r) where
  pub found-row : {k : ℕ} → r ≡ Ok k → Found n rs src x (Some k)
  found-row {k} e = let u = t.taken k e in record { says = sym (said rs src n k x v u.0 u.1); row = λ j q. (let y : k ≡ j = cc in rw y at (t.taken k e)) }

  pub found_none : {p : ℕ} → r ≡ Err p → Found n rs src x None
  found_none {p} e = record { says = sym (unsaid rs src n p x t e); row = λ j q. (never cc) }

count : (n : ℕ) (rs src : List ℕ) → length (symbols n rs src) ≡ n
unfolding symbols
count n rs src = length-tab n (symbol_row rs src)

-- `add_label` by what the table says
abbrev chosen : Lab → Span → S.Name → Table Name Symbol → Option Symbol → Outcome (Table Name Symbol)
chosen v p n ss (some s) = when eqb (address_of s.lab) (address_of v) then ok ss else refuse2 25 s.place n.place
chosen v p n ss none = when ltb (length ss) 1024 then ok (insert name_order newer (n.text, symbol v n.place) ss) else refuse 40 p

by-look : (v : Lab) (p : Span) (n : S.Name) (ss : Table Name Symbol) → add_label v p n ss ≡ chosen v p n ss (look name_order ss n.text)
unfolding add_label
by-look v p n ss = go (look name_order ss n.text)
  where
    go : (o : Option Symbol) → (elim o [
      | some s ↦ when eqb (address_of s.lab) (address_of v) then ok ss else refuse2 25 s.place n.place
      | none ↦ when ltb (length ss) 1024 then ok (insert name_order newer (n.text, symbol v n.place) ss) else refuse 40 p
    ]) ≡ chosen v p n ss o
    go none = refl
    go (some s) = refl

pick : {A : Type 0} (b c : Bool) (x y : A) → b ≡ c → (when b then x else y) ≡ (when c then x else y)
pick b c x y e = ap (λ (t : Bool). when t then x else y) e

held-no : {A : Type 0} {k m : ℕ} → Err (Clash k) ≡ Ok m → A
held-no e = never cc

full-no : {A : Type 0} {m : ℕ} → Err Full ≡ Ok m → A
full-no e = never cc

kept-no : {A : Type 0} {k m : ℕ} → Ok m ≡ Err (Clash k) → A
kept-no e = never cc

clash-no : {A : Type 0} {k : ℕ} → ◌≡◌ {A = Result ℕ AddErr} (Err Full) (Err (Clash k)) → A
clash-no e = never cc

module _ {rs src : List ℕ} {n a f s l k b : ℕ} {r : Result ℕ ℕ} (v : Ready rs src n a f s l) (t : Slotted rs src n (name_from src s l) r) (e : r ≡ Ok k) (q : b ≡ get_or rs (k * 4) 0) where
  found : look name_order (symbols n rs src) (name_from src s l) ≡ some (symbol_row rs src k).1
  found = let u = t.taken k e in said rs src n k (name_from src s l) v.table u.0 u.1

  own : address_of (lab_from a f) ≡ a
  own = address-of a f v.row.flag v.row.outside

  theirs : address_of (symbol_row rs src k).1.lab ≡ b
  theirs =
      let c = v.table.rows k (t.taken k e).0 in
      address-of (get_or rs (k * 4) 0) (get_or rs (k * 4 + 1) 0) c.flag c.outside ∙ sym q

  pub add_kept : b ≡ a → Adding rs src rs n a f s l (Ok n)
  unfolding when◌then◌else◌
  add_kept h = record {
    rule = λ p. sym (by-look (lab_from a f) p (named_at src s l) (symbols n rs src) ∙ (ap (chosen (lab_from a f) p (named_at src s l) (symbols n rs src)) found
        ∙ pick _ true _ _ (eq-eqb _ _ (theirs ∙ (h ∙ sym own)))));
    table = λ m x. (let y : n ≡ m = cc in rw y at v.table);
    clash = λ m x. kept-no x;
  }

  pub add-clash : (b ≡ a → ⊥) → Adding rs src rs n a f s l (Err (Clash k))
  unfolding when◌then◌else◌
  add-clash h = record {
    rule = λ p. sym (by-look (lab_from a f) p (named_at src s l) (symbols n rs src) ∙ (ap (chosen (lab_from a f) p (named_at src s l) (symbols n rs src)) found
        ∙ pick _ false _ _ (ne_eqb _ _ (λ (z : address_of (symbol_row rs src k).1.lab ≡ address_of (lab_from a f)). h (sym theirs ∙ (z ∙ own))))));
    table = λ m x. held-no x;
    clash = λ m x. (let y : k ≡ m = cc in (rw y at (t.taken k e).0, refl));
  }

module _ {rs src : List ℕ} {n a f s l p : ℕ} {r : Result ℕ ℕ} (t : Slotted rs src n (name_from src s l) r) (e : r ≡ Err p) where
  pub add-full : 1024 ≤ n → Adding rs src rs n a f s l (Err Full)
  unfolding when◌then◌else◌
  add-full h = record {
    rule = λ q. sym (by-look (lab_from a f) q (named_at src s l) (symbols n rs src)
        ∙ (ap (chosen (lab_from a f) q (named_at src s l) (symbols n rs src)) (unsaid rs src n p (name_from src s l) t e)
        ∙ pick _ false _ _ (ap (λ (m : ℕ). ltb m 1024) (count n rs src) ∙ le-ltb n 1024 h)));
    table = λ m x. full-no x;
    clash = λ m x. clash-no x;
  }

  pub add-new : {rs' : List ℕ} → n < 1024 → Inserted rs src rs' n a f s l → Adding rs src rs' n a f s l (Ok (n + 1))
  unfolding when◌then◌else◌
  add-new h i = record {
    rule = λ q. sym (by-look (lab_from a f) q (named_at src s l) (symbols n rs src)
        ∙ (ap (chosen (lab_from a f) q (named_at src s l) (symbols n rs src)) (unsaid rs src n p (name_from src s l) t e)
        ∙ (pick _ true _ _ (ap (λ (m : ℕ). ltb m 1024) (count n rs src) ∙ lt-ltb n 1024 h) ∙ ap ok (sym i.symbols))));
    table = λ m x. (let y : n + 1 ≡ m = cc in rw y at i.table);
    clash = λ m x. kept-no x;
  }
