-- The rules' `place` past blocks, at a block that it overlaps, and where it belongs. Assumes nothing.
use Prim.Native.Nat.{ℕ, zero, suc, ◌<◌, suc-le-suc, zero-le}
use mathlib.Core.Path.{◌≡◌, refl, ◌∙◌}
use mathlib.Core.Bool.{Bool, true, false}
use mathlib.Core.List.{List, [], ◌∷◌, ◌++◌}
use lib.ListN.{length}
use lib.Dec.{ltb, leb}
use Rattle.rules.specs.Base.{when◌then◌else◌, Outcome, ok, refuse2, ◌>>=◌, Span}
use Rattle.rules.specs.Passes.{ObjBlock, place, ranges_overlap, overlapping}
use Rattle.rules.specs.Buffers.{tab}

abbrev pub meets : ObjBlock → ObjBlock → Bool
meets x y = ranges_overlap x.start (length x.words) y.start (length y.words)

-- x lies behind y
pub record Far (x y : ObjBlock) : Type 0 where
  pub clear : meets x y ≡ false
  pub later : ltb x.start y.start ≡ false

step : (x y : ObjBlock) (ys zs : List ObjBlock) → Far x y → place x ys ≡ ok zs → place x (y ∷ ys) ≡ ok (y ∷ zs)
unfolding place when◌then◌else◌
step x y ys zs f e =
    λ i. when f.clear i then overlapping x.place y.place else when f.later i then ok (x ∷ y ∷ ys) else (e i >>= λ ts. ok (y ∷ ts))

stays : (p q : Span) (g : List ObjBlock → Outcome (List ObjBlock)) → (overlapping p q >>= g) ≡ overlapping p q
unfolding overlapping when◌then◌else◌
stays p q g = go (leb p.start q.start)
  where
    go : (b : Bool) → ((when b then refuse2 28 p q else refuse2 28 q p) >>= g) ≡ (when b then refuse2 28 p q else refuse2 28 q p)
    go true = refl
    go false = refl

refused-step : (x y : ObjBlock) (ys : List ObjBlock) (p q : Span) → Far x y → place x ys ≡ overlapping p q → place x (y ∷ ys) ≡ overlapping p q
unfolding place when◌then◌else◌
refused-step x y ys p q f e =
    (λ i. when f.clear i then overlapping x.place y.place else when f.later i then ok (x ∷ y ∷ ys) else (e i >>= λ ts. ok (y ∷ ts)))
    ∙ stays p q (λ ts. ok (y ∷ ts))

pub place-hit : (x y : ObjBlock) (ys : List ObjBlock) → meets x y ≡ true → place x (y ∷ ys) ≡ overlapping x.place y.place
unfolding place when◌then◌else◌
place-hit x y ys e =
    λ i. when e i then overlapping x.place y.place else when ltb x.start y.start then ok (x ∷ y ∷ ys) else (place x ys >>= λ ts. ok (y ∷ ts))

pub place-first : (x y : ObjBlock) (ys : List ObjBlock) → meets x y ≡ false → ltb x.start y.start ≡ true → place x (y ∷ ys) ≡ ok (x ∷ y ∷ ys)
unfolding place when◌then◌else◌
place-first x y ys e l =
    λ i. when e i then overlapping x.place y.place else when l i then ok (x ∷ y ∷ ys) else (place x ys >>= λ ts. ok (y ∷ ts))

pub place-last : (x : ObjBlock) → place x [] ≡ ok (x ∷ [])
unfolding place
place-last x = refl

pub place-free : (x : ObjBlock) (k : ℕ) (f : ℕ → ObjBlock) (zs : List ObjBlock) → ((i : ℕ) → i < k → Far x (f i)) → place x zs ≡ ok (x ∷ zs)
    → place x (tab k f ++ zs) ≡ ok (tab k f ++ (x ∷ zs))
place-free x zero f zs h e = e
place-free x (suc k) f zs h e =
    step x (f 0) (tab k (λ i. f (suc i)) ++ zs) (tab k (λ i. f (suc i)) ++ (x ∷ zs)) (h 0 (suc-le-suc zero-le))
    (place-free x k (λ i. f (suc i)) zs (λ i l. h (suc i) (suc-le-suc l)) e)

pub place-clash : (x : ObjBlock) (k : ℕ) (f : ℕ → ObjBlock) (zs : List ObjBlock) (p q : Span) → ((i : ℕ) → i < k → Far x (f i)) → place x zs ≡ overlapping p q
    → place x (tab k f ++ zs) ≡ overlapping p q
place-clash x zero f zs p q h e = e
place-clash x (suc k) f zs p q h e =
    refused-step x (f 0) (tab k (λ i. f (suc i)) ++ zs) p q (h 0 (suc-le-suc zero-le))
    (place-clash x k (λ i. f (suc i)) zs p q (λ i l. h (suc i) (suc-le-suc l)) e)
