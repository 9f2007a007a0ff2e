-- Through both passes: every word is two bytes, and at each relocation stands a set word 0. Assumes nothing.
use mathlib.Core.Path.{◌≡◌, refl, sym, ◌∙◌, ap, subst}
use mathlib.Core.Bool.{Bool, true, false}
use mathlib.Core.List.{List, [], ◌∷◌, ◌++◌, map}
use mathlib.Core.Logic.{◌⊎◌, inl, inr}
use mathlib.Core.Option.{Option, none, some}
use Prim.Native.Nat.{ℕ, zero, suc, ◌+◌, ◌-◌, ◌<◌}
use native.Mathlib.Omega.{arith}
use lib.Dec.{eqb}
use lib.ListN.{length, replicate}
use borrow.Author.Tests.{eqb-true}
use Rattle.rules.specs.Base.{when◌then◌else◌, Outcome, ok, refuse, ◌>>=◌, Span}
use Rattle.rules.specs.Words.{reach, field, Op, instr, orig, fill, blkw, stringz, end, external}
use Rattle.rules.specs.Statements.{Stmt, Target}
use Rattle.rules.specs.Statements as S
use Rattle.rules.specs.Tables.{Table, look, nat_order, name_order}
use Rattle.rules.specs.Objects.{Cell, unset, word, Lab, outer, defined, address_of, Name, cells_from}
use Rattle.rules.specs.Passes.{Symbol, Pass1State, pass1_start, pass_one, address, offset_to, words_of, ObjBlock, obj_block, Pass2State, pass2_state, pass2_start, place, emit, finish, written, pass_two}
use Rattle.rules.proofs.Gave.{gave}
use Rattle.rules.proofs.Tables.{none-some, look-here}
use Rattle.rules.proofs.Runs.{or_else, look-append, left-some, run_in}
use Rattle.rules.proofs.Bools.{never}
use Rattle.laws.proofs.Steps.{Step, step, ended}
use Rattle.laws.proofs.Alongside.{Alongside, Level, All, Any, Put, place-puts, along-next, orig-outside}
use Rattle.laws.proofs.Known.{SymbolsOk, Grew, Outside, Kept, Low, Sound, AllSound, kept_step, named-grew, kept-all}
use Rattle.laws_accepted.proofs.Relocations.{Filled, step-new}

-- WORDS OF TWO BYTES
abbrev pub LowCells : List Cell → Type 0
LowCells [] = Unit {0}
LowCells (unset ∷ cs) = LowCells cs
LowCells (word w ∷ cs) = (w < 65536) × LowCells cs

low-append : (a b : List Cell) → LowCells a → LowCells b → LowCells (a ++ b)
low-append [] b g h = h
low-append (unset ∷ a) b g h = low-append a b g h
low-append (word w ∷ a) b g h = (g.0, low-append a b g.1 h)

low-unset : (n : ℕ) → LowCells (replicate n unset)
low-unset zero = tt
low-unset (suc n) = low-unset n

low-text : (cs : List ℕ) → Low cs → LowCells (map word (cs ++ 0 ∷ []))
low-text [] h = (omega arith, tt)
low-text (c ∷ cs) h = (h.0, low-text cs h.1)

module _ (y : Table Name Symbol) (k : SymbolsOk y) where
  address-low : (n : S.Name) (a : ℕ) → address y n ≡ ok a → a < 65536
  unfolding address
  address-low n a e = go (look name_order y n.text) refl e
    where
      go : (m : Option Symbol) → look name_order y n.text ≡ m → ◌≡◌ {A = Outcome ℕ} (elim m [ none ↦ refuse 31 n.place | some s ↦ ok (address_of s.lab) ]) (ok a) → a < 65536
      go none q x = never cc
      go (some s) q x = let z : address_of s.lab ≡ a = cc in rw (← z) (k.low n.text s q)

  offset-field : (pc : ℕ) (t : Target) (n : ℕ) → offset_to y pc t ≡ ok n → (d : ℕ) × (field t.field d ≡ n)
  unfolding offset_to
  offset-field pc t n e = by-symbol (look name_order y t.name.text) e
    where
      by-lab : (l : Lab) → ◌≡◌ {A = Outcome ℕ} (elim l [ outer ↦ refuse 30 t.name.place | defined a ↦ reach t.field a pc t.name.place >>= λ d. ok (field t.field d) ]) (ok n) → (d : ℕ) × (field t.field d ≡ n)
      by-lab outer x = never cc
      by-lab (defined a) x =
          let u = gave (reach t.field a pc t.name.place) _ n x in
          (u.given', cc u.then')

      by-symbol : (m : Option Symbol) → ◌≡◌ {A = Outcome ℕ} (elim m [
        | none ↦ refuse 31 t.name.place
        | some s ↦ elim s.lab [ outer ↦ refuse 30 t.name.place | defined a ↦ reach t.field a pc t.name.place >>= λ d. ok (field t.field d) ]
      ]) (ok n) → (d : ℕ) × (field t.field d ≡ n)
      by-symbol none x = never cc
      by-symbol (some s) x = by-lab s.lab x

  words_low : (a : ℕ) (p : Op) (s : Stmt) (ws : List Cell) → s.op ≡ p → Sound s → words_of y a p s ≡ ok ws → LowCells ws
  unfolding words_of
  words_low a orig s ws i g e = let q : [] ≡ ws = cc in rw (← q) tt
  words_low a end s ws i g e = let q : [] ≡ ws = cc in rw (← q) tt
  words_low a external s ws i g e = let q : [] ≡ ws = cc in rw (← q) tt
  words_low a blkw s ws i g e = let q : replicate s.bits unset ≡ ws = cc in rw (← q) (low-unset s.bits)
  words_low a stringz s ws i g e = let q : map word (s.chars ++ 0 ∷ []) ≡ ws = cc in rw (← q) (low-text s.chars (g.chars i))
  words_low a fill s ws i g e = go s.target e
    where
      go : (t : Option Target) → ◌≡◌ {A = Outcome (List Cell)} (elim t [ none ↦ ok (word s.bits ∷ []) | some t ↦ address y t.name >>= λ n. ok (word n ∷ []) ]) (ok ws) → LowCells ws
      go none x = let q : word s.bits ∷ [] ≡ ws = cc in rw (← q) (g.bits, tt)
      go (some t) x =
          let u = gave (address y t.name) _ ws x in
          let q : word u.given' ∷ [] ≡ ws = cc u.then' in
          rw (← q) (address-low t.name u.given' u.first, tt)
  words_low a instr s ws j g e = go s.target refl e
    where
      go : (t : Option Target) → s.target ≡ t → ◌≡◌ {A = Outcome (List Cell)} (elim t [ none ↦ ok (word s.bits ∷ []) | some t ↦ offset_to y (a + 1) t >>= λ n. ok (word (s.bits + n) ∷ []) ]) (ok ws) → LowCells ws
      go none i x = let q : word s.bits ∷ [] ≡ ws = cc in rw (← q) (g.bits, tt)
      go (some t) i x =
          let u = gave (offset_to y (a + 1) t) _ ws x in
          let q : word (s.bits + u.given') ∷ [] ≡ ws = cc u.then' in
          let d = offset-field (a + 1) t u.given' u.first in
          rw (← q) (rw (← d.1) (g.offset t i d.0), tt)

-- A SET WORD 0 AT AN ADDRESS
abbrev pub Has : ℕ → ObjBlock → Type 0
Has x b = look nat_order (cells_from b.start b.words) x ≡ some (word 0)

abbrev pub HeldIn : ℕ → Option ObjBlock → Type 0
HeldIn x none = ⊥
HeldIn x (some b) = Has x b

abbrev pub Held : ℕ → Pass2State → Type 0
Held x t = HeldIn x t.current ⊎ Any (Has x) t.blocks

cells-append : (s : ℕ) (a b : List Cell) → cells_from s (a ++ b) ≡ cells_from s a ++ cells_from (s + length a) b
cells-append s [] b = ap (λ (n : ℕ). cells_from n b) (let q : s ≡ s + 0 = omega arith in q)
cells-append s (c ∷ a) b =
    let q : suc s + length a ≡ s + suc (length a) = omega arith in
    ap (λ (l : Table ℕ Cell). (s, c) ∷ l) (cells-append (suc s) a b ∙ ap (λ (n : ℕ). cells_from (suc s) a ++ cells_from n b) q)

has_more : (x : ℕ) (b : ObjBlock) (ws : List Cell) (p : Span) → Has x b → Has x (obj_block b.start (b.words ++ ws) p)
has_more x b ws p h = ap (λ (l : Table ℕ Cell). look nat_order l x) (cells-append b.start b.words ws) ∙ (look-append nat_order (cells_from b.start b.words) (cells_from (b.start + length b.words) ws) x ∙ left-some (look nat_order (cells_from b.start b.words) x) (look nat_order (cells_from (b.start + length b.words) ws) x) (word 0) h)

past-none : (s : ℕ) (a : List Cell) → look nat_order (cells_from s a) (s + length a) ≡ none
past-none s a = go (look nat_order (cells_from s a) (s + length a)) refl
  where
    go : (o : Option Cell) → look nat_order (cells_from s a) (s + length a) ≡ o → o ≡ none
    go none q = refl
    go (some c) q = absurd (let l = run_in s a (s + length a) c q in omega (arith, l))

has_new : (b : ObjBlock) (p : Span) → Has (b.start + length b.words) (obj_block b.start (b.words ++ (word 0 ∷ [])) p)
has_new b p =
    let x : ℕ = b.start + length b.words in
    ap (λ (l : Table ℕ Cell). look nat_order l (b.start + length b.words)) (cells-append b.start b.words (word 0 ∷ []))
    ∙ (look-append nat_order (cells_from b.start b.words) (cells_from (b.start + length b.words) (word 0 ∷ [])) (b.start + length b.words)
    ∙ (ap (λ (o : Option Cell). or_else o (look nat_order (cells_from (b.start + length b.words) (word 0 ∷ [])) (b.start + length b.words))) (past-none b.start b.words)
    ∙ look-here nat_order (b.start + length b.words, word 0) [] (b.start + length b.words) refl))

-- BOTH PASSES
pub record Fine (o : Pass1State) (t : Pass2State) : Type 0 where
  pub low-open : (b : ObjBlock) → t.current ≡ some b → LowCells b.words
  pub low : All (λ b. LowCells b.words) t.blocks
  pub zero : (x : ℕ) (n : Name) → look nat_order o.relocs x ≡ some n → Held x t

-- what pass two keeps of the words, beside relocations
record Keeps (t u : Pass2State) : Type 0 where
  pub low-open : ((b : ObjBlock) → t.current ≡ some b → LowCells b.words) → (b : ObjBlock) → u.current ≡ some b → LowCells b.words
  pub low : ((b : ObjBlock) → t.current ≡ some b → LowCells b.words) → All (λ b. LowCells b.words) t.blocks → All (λ b. LowCells b.words) u.blocks
  pub held : (x : ℕ) → Held x t → Held x u

same_some : {A : Type 0} {x y : A} → ◌≡◌ {A = Option A} (some x) (some y) → x ≡ y
same_some e = cc

module _ (y : Table Name Symbol) (k : SymbolsOk y) (s : Stmt) (g : Sound s) (t u : Pass2State) where
  emit-keeps : emit y s t ≡ ok u → Keeps t u
  unfolding emit
  emit-keeps e = go t.current refl e
    where
      held_more : (b : ObjBlock) (ws : List Cell) → t.current ≡ some b → (x : ℕ) → HeldIn x t.current ⊎ Any (Has x) t.blocks → Has x (obj_block b.start (b.words ++ ws) b.place) ⊎ Any (Has x) t.blocks
      held_more b ws q x (inl h) = inl (has_more x b ws b.place (rw q at h))
      held_more b ws q x (inr h) = inr h

      go : (b : Option ObjBlock) → t.current ≡ b → ◌≡◌ {A = Outcome Pass2State} (elim b [
        | none ↦ refuse 21 s.place
        | some b ↦ words_of y (b.start + length b.words) s.op s >>= λ ws. ok (pass2_state (some (obj_block b.start (b.words ++ ws) b.place)) t.blocks)
      ]) (ok u) → Keeps t u
      go none q x = never cc
      go (some b) q x =
          let v = gave (words_of y (b.start + length b.words) s.op s) _ u x in
          let i : pass2_state (some (obj_block b.start (b.words ++ v.given') b.place)) t.blocks ≡ u = cc v.then' in
          let l = words_low y k (b.start + length b.words) s.op s v.given' refl g v.first in
          rw (← i) (record {
            low-open = λ h c z. rw (← same_some z) (low-append b.words v.given' (h b q) l);
            low = λ h m. m;
            held = λ x h. held_more b v.given' q x h;
          })

  finish-keeps : finish t ≡ ok u → Keeps t u
  unfolding finish when◌then◌else◌
  finish-keeps e = go t.current refl e
    where
      dropped : (b : ObjBlock) → t.current ≡ some b → length b.words ≡ 0 → (x : ℕ) → HeldIn x t.current ⊎ Any (Has x) t.blocks → ⊥ ⊎ Any (Has x) t.blocks
      dropped b q l x (inr h) = inr h
      dropped b q l x (inl h) = empty b.words l (rw q at h)
        where
          empty : (ws : List Cell) → length ws ≡ 0 → look nat_order (cells_from b.start ws) x ≡ some (word 0) → ⊥ ⊎ Any (Has x) t.blocks
          empty [] z w = absurd (none-some w)
          empty (c ∷ ws) z w = absurd (omega (arith, z))

      moved : (b : ObjBlock) → t.current ≡ some b → (bs : List ObjBlock) → Put b t.blocks bs → (x : ℕ) → HeldIn x t.current ⊎ Any (Has x) t.blocks → ⊥ ⊎ Any (Has x) bs
      moved b q bs w x (inl h) = inr (w.any (Has x) (inl (rw q at h)))
      moved b q bs w x (inr h) = inr (w.any (Has x) (inr h))

      by_size : (b : ObjBlock) → t.current ≡ some b → (z : Bool) → eqb (length b.words) 0 ≡ z → (when z then ok (pass2_state none t.blocks) else (place b t.blocks >>= λ bs. ok (pass2_state none bs))) ≡ ok u → Keeps t u
      by_size b q true h x =
          let i : pass2_state none t.blocks ≡ u = cc in
          rw (← i) (record { low-open = λ l c z. absurd (none-some z); low = λ l m. m; held = dropped b q (eqb-true (length b.words) 0 h) })
      by_size b q false h x =
          let v = gave (place b t.blocks) _ u x in
          let i : pass2_state none v.given' ≡ u = cc v.then' in
          let w = place-puts b t.blocks v.given' v.first in
          rw (← i) (record { low-open = λ l c z. absurd (none-some z); low = λ l m. w.all (λ b. LowCells b.words) (l b q) m; held = moved b q v.given' w })

      go : (b : Option ObjBlock) → t.current ≡ b → ◌≡◌ {A = Outcome Pass2State} (elim b [
        | none ↦ ok t
        | some b ↦ when eqb (length b.words) 0 then ok (pass2_state none t.blocks) else (place b t.blocks >>= λ bs. ok (pass2_state none bs))
      ]) (ok u) → Keeps t u
      go none q x = let i : t ≡ u = cc in rw (← i) (record { low-open = λ h. h; low = λ h m. m; held = λ x h. h })
      go (some b) q x = by_size b q (eqb (length b.words) 0) refl x

  orig-keeps : t.current ≡ none → ok (pass2_state (some (obj_block s.bits [] s.place)) t.blocks) ≡ ok u → Keeps t u
  orig-keeps q e =
      let i : pass2_state (some (obj_block s.bits [] s.place)) t.blocks ≡ u = cc in
      rw (← i) (record { low-open = λ h c z. rw (← same_some z) tt; low = λ h m. m; held = λ x h. go x h })
    where
      go : (x : ℕ) → HeldIn x t.current ⊎ Any (Has x) t.blocks → Has x (obj_block s.bits [] s.place) ⊎ Any (Has x) t.blocks
      go x (inl h) = absurd (rw q at h)
      go x (inr h) = inr h

  written_keeps : (p : Op) → (p ≡ orig → t.current ≡ none) → written y p s t ≡ ok u → Keeps t u
  unfolding written
  written_keeps instr h e = emit-keeps e
  written_keeps fill h e = emit-keeps e
  written_keeps blkw h e = emit-keeps e
  written_keeps stringz h e = emit-keeps e
  written_keeps orig h e = orig-keeps (h refl) e
  written_keeps end h e = finish-keeps e
  written_keeps external h e = let i : t ≡ u = cc in rw (← i) (record { low-open = λ h. h; low = λ h m. m; held = λ x h. h })

-- a.fill of an external writes 0
outside-address : (y : Table Name Symbol) (n : S.Name) → Outside (look name_order y n.text) → address y n ≡ ok 0
unfolding address
outside-address y n h = ap (λ (m : Option Symbol). elim m as (λ x. Outcome ℕ) [ none ↦ refuse 31 n.place | some s ↦ ok (address_of s.lab) ]) h.is ∙ ap (λ (l : Lab). ok (address_of l)) h.outside

fill-writes : (y : Table Name Symbol) (a : ℕ) (s : Stmt) (t : Target) → s.target ≡ some t → Outside (look name_order y t.name.text) → words_of y a fill s ≡ ok (word 0 ∷ [])
unfolding words_of
fill-writes y a s t i h = ap (λ (o : Option Target). elim o as (λ x. Outcome (List Cell)) [ none ↦ ok (word s.bits ∷ []) | some t ↦ address y t.name >>= λ n. ok (word n ∷ []) ]) i ∙ ap (λ (o : Outcome ℕ). o >>= λ n. ok (word n ∷ [])) (outside-address y t.name h)

module _ (y : Table Name Symbol) (s : Stmt) (o : Pass1State) (t u : Pass2State) (a : Alongside o t) where
  fill-held : (named : Table Name Symbol) (x : ℕ) → Grew named y → Filled s o named x → written y s.op s t ≡ ok u → Held x u
  unfolding written emit
  fill-held named x r h e = go t.current (rw h.open' at a.level) (subst (λ (p : Op). written y p s t ≡ ok u) h.op e)
    where
      out : Outside (look name_order y h.target.name.text)
      out = record { symbol = h.outside.symbol; is = r h.target.name.text h.outside.symbol h.outside.is; outside = h.outside.outside }

      zeroed : (b : ℕ) → words_of y b s.op s ≡ ok (word 0 ∷ [])
      zeroed b = subst (λ (p : Op). words_of y b p s ≡ ok (word 0 ∷ [])) (sym h.op) (fill-writes y b s h.target h.aims out)

      go : (b : Option ObjBlock) → Level (some h.block) b → ◌≡◌ {A = Outcome Pass2State} (elim b [
        | none ↦ refuse 21 s.place
        | some b ↦ words_of y (b.start + length b.words) s.op s >>= λ ws. ok (pass2_state (some (obj_block b.start (b.words ++ ws) b.place)) t.blocks)
      ]) (ok u) → Held x u
      go none l q = absurd l
      go (some b) l q =
          let z : (words_of y (b.start + length b.words) s.op s >>= λ ws. ok (pass2_state (some (obj_block b.start (b.words ++ ws) b.place)) t.blocks)) ≡ ok (pass2_state (some (obj_block b.start (b.words ++ (word 0 ∷ [])) b.place)) t.blocks) = ap (λ (w : Outcome (List Cell)). w >>= λ ws. ok (pass2_state (some (obj_block b.start (b.words ++ ws) b.place)) t.blocks)) (zeroed (b.start + length b.words)) in
          let i : pass2_state (some (obj_block b.start (b.words ++ (word 0 ∷ [])) b.place)) t.blocks ≡ u = cc (sym z ∙ q) in
          let c : x ≡ b.start + length b.words = h.here ∙ l.counter in
          rw (← i) (inl (rw c (has_new b b.place)))

-- one statement
fine-step : (s : Stmt) (ss : List Stmt) (o f : Pass1State) (t u : Pass2State) → Alongside o t → Kept o → Fine o t → Sound s → AllSound ss → pass_one (s ∷ ss) o ≡ ok f → (v : Step s ss o f) → written f.symbols s.op s t ≡ ok u → Fine v.next u
fine-step s ss o f t u a k h g gs e v w =
    let n = kept_step s ss o f k g v in
    let l = kept-all ss v.next f n.kept gs v.rest in
    let c = written_keeps f.symbols l.kept.symbols s g t u s.op (orig-outside s ss o f t a e) w in
    record {
      low-open = c.low-open h.low-open;
      low = c.low h.low-open h.low;
      zero = λ x m q. by-age x (c.held x) l.grew (step-new s ss o f v k.relocs_up x m q);
    }
  where
    by-age : (x : ℕ) {m : Name} → (Held x t → Held x u) → Grew v.next.symbols f.symbols → (look nat_order o.relocs x ≡ some m) ⊎ Filled s o v.named.symbols x → Held x u
    by-age x c r (inl q) = c (h.zero x _ q)
    by-age x c r (inr q) = fill-held f.symbols s o t u a v.named.symbols x (λ n y z. r n y (named-grew s ss o f k g v n y z)) q w

-- ALL STATEMENTS
pub record Finished (f : Pass1State) (u : Pass2State) : Type 0 where
  pub along : Alongside f u
  pub kept : Kept f
  pub fine : Fine f u
  pub outside : f.cursor ≡ none

pub fine-all : (ss : List Stmt) (o f : Pass1State) (t u : Pass2State) → Alongside o t → Kept o → Fine o t → AllSound ss → pass_one ss o ≡ ok f → pass_two f.symbols ss t ≡ ok u → Finished f u
unfolding pass_two
fine-all [] o f t u a k h g e w =
    let q : t ≡ u = cc in
    let z = ended o f e in
    rw (← q, ← z.1) (record { along = a; kept = k; fine = h; outside = z.0 })
fine-all (s ∷ ss) o f t u a k h g e w =
    let v = step s ss o f e in
    let x = gave (written f.symbols s.op s t) _ u w in
    let n = kept_step s ss o f k g.0 v in
    let c = fine-step s ss o f t x.given' a k h g.0 g.1 e v x.first in
    fine-all ss v.next f x.given' u (along-next f.symbols s ss o f t x.given' a e x.first) n.kept c g.1 v.rest x.then'

pub fine-start : Fine pass1_start pass2_start
fine-start = record { low-open = λ b e. absurd (none-some e); low = tt; zero = λ x n e. absurd (none-some e) }
