-- What the loop that matches labels keeps, and each way through its body. Assumes nothing.
use Rattle.std.specs.declared.result.Result.TheVariants.{Ok, Err}
use Rattle.std.specs.declared.option.Option as O
use Rattle.std.specs.declared.option.Option.TheVariants.{Some, None}
use mathlib.Core.Path.{◌≡◌, refl, sym, ◌∙◌, ap}
use mathlib.Core.Bool.{true, false}
use mathlib.Core.Option.{none, some}
use mathlib.Core.List.{List, ◌∷◌}
use Prim.Native.Nat.{ℕ, ◌+◌, ◌*◌, ◌≤◌, ◌<◌}
use native.Mathlib.Omega.{arith}
use native.Mathlib.Numerals.{add-one}
use lib.ListN.{length}
use Rattle.rules.specs.Base.{Outcome, ok, refuse, span}
use Rattle.rules.specs.Tables.{Table, Low, look, name_order}
use Rattle.rules.specs.Objects.{Lab, Name}
use Rattle.rules.specs.Buffers.{name_row, lab_row, label_row, view_labels, LabelsOk}
use Rattle.rules.specs.Linking.{differ, agree}
use Rattle.rules.proofs.Bools.{never}
use Rattle.rules.proofs.Tables.{look-here, look-low}
use Rattle.rules.proofs.Merging.{rows_from, rows_all, rows_none, rows_next, low_rows}
use Rattle.base_buffers.specs.Rows.{with_row}
use Rattle.link_notes.specs.Notes.{address_in, Noted}
use Rattle.link_labels.specs.Matching.{both_labels, both_agree, RowIn, joined_as, FirstNext, SecondNext, BothNext, NoneNext, Sided, MatchReady, Matches}
use Rattle.link_labels.specs.declared.Side.{Side}
use Rattle.link_labels.specs.declared.Side.TheVariants.{First, Second, Both, Over}
use Rattle.link_labels.proofs.Agreeing.{agree-low, agree-next, agree-stop, differ-none}
use Rattle.link_labels.proofs.Joining.{row-in, at-false, apart-true}
use Rattle.link_labels.proofs.Rests.{Rest, rest-start, first-here, first_rest, second-here, second-rest, both-here, both_rest, none_rest}
use Rattle.link_labels.proofs.Noting.{length-row, noted-none, noted_more}

-- WHETHER THE RESTS AGREE

abbrev pub rests_agree : ℕ → List ℕ → List ℕ → ℕ → List ℕ → List ℕ → ℕ → ℕ → Outcome (Unit {0})
rests_agree m al an n bl bn i j = agree i (rows_from i m (label_row al an)) (rows_from j n (label_row bl bn))

module _ {m : ℕ} {al an : List ℕ} {n : ℕ} {bl bn : List ℕ} (a : LabelsOk m al an) (b : LabelsOk n bl bn) where
  agree-start : rests_agree m al an n bl bn 0 0 ≡ both_agree m al an n bl bn
  unfolding view_labels
  agree-start = rw (rows_all m (label_row al an), rows_all n (label_row bl bn)) refl

  module _ {i j : ℕ} where
    agree-first : FirstNext m al an n bl bn i j → rests_agree m al an n bl bn i j ≡ rests_agree m al an n bl bn (i + 1) j
    agree-first s =
        let l : Low name_order (name_row al an i) (rows_from j n (label_row bl bn)) = low_rows name_order (name_row al an i) j n (label_row bl bn) b.up s.low in
        ap (λ (t : Table Name Lab). agree i t (rows_from j n (label_row bl bn))) (rows_next i m (label_row al an) s.within)
        ∙ agree-next i (label_row al an i) (rows_from (i + 1) m (label_row al an)) (rows_from j n (label_row bl bn)) none (look-low name_order (name_row al an i) (rows_from j n (label_row bl bn)) l) (differ-none (lab_row al i))

    agree-second : SecondNext m al an n bl bn i j → rests_agree m al an n bl bn i j ≡ rests_agree m al an n bl bn i (j + 1)
    agree-second s =
        ap (agree i (rows_from i m (label_row al an))) (rows_next j n (label_row bl bn) s.within)
        ∙ agree-low i (rows_from i m (label_row al an)) (label_row bl bn j) (rows_from (j + 1) n (label_row bl bn)) (low_rows name_order (name_row bl bn j) i m (label_row al an) a.up s.low)

    module _ (s : BothNext m al an n bl bn i j) where
      split : rests_agree m al an n bl bn i j ≡ agree i (label_row al an i ∷ rows_from (i + 1) m (label_row al an)) (label_row bl bn j ∷ rows_from (j + 1) n (label_row bl bn))
      split = rw (rows_next i m (label_row al an) s.first, rows_next j n (label_row bl bn) s.second) refl

      found : look name_order (label_row bl bn j ∷ rows_from (j + 1) n (label_row bl bn)) (name_row al an i) ≡ some (lab_row bl j)
      found = look-here name_order (label_row bl bn j) (rows_from (j + 1) n (label_row bl bn)) (name_row al an i) s.same

      agree-both : differ (lab_row al i) (some (lab_row bl j)) ≡ false → rests_agree m al an n bl bn i j ≡ rests_agree m al an n bl bn (i + 1) (j + 1)
      agree-both d =
          let low : Low name_order (name_row bl bn j) (rows_from (i + 1) m (label_row al an)) =
          low_rows name_order (name_row bl bn j) (i + 1) m (label_row al an) a.up (λ q. rw (← s.same, add-one) (a.up.next i (omega arith))) in
          split
          ∙ (agree-next i (label_row al an i) (rows_from (i + 1) m (label_row al an)) (label_row bl bn j ∷ rows_from (j + 1) n (label_row bl bn)) (some (lab_row bl j)) found d
          ∙ agree-low (i + 1) (rows_from (i + 1) m (label_row al an)) (label_row bl bn j) (rows_from (j + 1) n (label_row bl bn)) low)

      agree-apart : differ (lab_row al i) (some (lab_row bl j)) ≡ true → rests_agree m al an n bl bn i j ≡ refuse 25 (span i (i + 1))
      agree-apart d = split ∙ agree-stop i (label_row al an i) (rows_from (i + 1) m (label_row al an)) (label_row bl bn j ∷ rows_from (j + 1) n (label_row bl bn)) (some (lab_row bl j)) found d

    agree-over : NoneNext m n i j → rests_agree m al an n bl bn i j ≡ ok tt
    unfolding agree
    agree-over s = rw (rows_none i m (label_row al an) s.first) refl

-- THE LOOP: k rows of the result are met, i of the first object's and j of the second's, and these are noted

pub record Matching (m : ℕ) (al an : List ℕ) (n : ℕ) (bl bn xs₀ ys₀ xs ys : List ℕ) (i j k : ℕ) : Type 0 where
  pub first-size : length xs ≡ length xs₀
  pub second-size : length ys ≡ length ys₀
  pub rest : Rest m al an n bl bn i j k
  pub agreeing : rests_agree m al an n bl bn i j ≡ both_agree m al an n bl bn
  pub first : Noted (both_labels m al an n bl bn) al an i xs
  pub second : Noted (both_labels m al an n bl bn) bl bn j ys

pub match_none : {m : ℕ} {al an : List ℕ} {n : ℕ} {bl bn xs ys : List ℕ} → MatchReady m al an n bl bn xs ys → Matching m al an n bl bn xs ys xs ys 0 0 0
match_none t = record {
  first-size = refl;
  second-size = refl;
  rest = rest-start t.first t.second;
  agreeing = agree-start t.first t.second;
  first = noted-none;
  second = noted-none;
}

-- a row of the result is a small number
pub few-rows : {m : ℕ} {al an : List ℕ} {n : ℕ} {bl bn xs₀ ys₀ xs ys : List ℕ} {i j k : ℕ} → MatchReady m al an n bl bn xs₀ ys₀ → Matching m al an n bl bn xs₀ ys₀ xs ys i j k → k ≤ 262144
few-rows t c = omega (arith, t.first.few, t.second.few, c.rest.few, c.rest.first-in, c.rest.second-in)

module _ {m : ℕ} {al an : List ℕ} {n : ℕ} {bl bn xs₀ ys₀ xs ys : List ℕ} {i j k : ℕ} {r : Side}
    (t : MatchReady m al an n bl bn xs₀ ys₀) (c : Matching m al an n bl bn xs₀ ys₀ xs ys i j k) (s : Sided m al an n bl bn i j r) where
  -- the row is the first object's
  module _ (q : r ≡ First) where
    pub first-row : i * 4 + 4 ≤ length al
    first-row = omega (arith, (s.first q).within, t.first.room)

    pub first-note : i * 2 + 1 < length xs
    first-note = omega (arith, (s.first q).within, t.first_notes, c.first-size)

    pub match-first : {xs' : List ℕ} → xs' ≡ with_row xs i k (address_in (some (lab_row al i))) → Matching m al an n bl bn xs₀ ys₀ xs' ys (i + 1) j (k + 1)
    match-first {xs'} e =
        let f = s.first q in
        let a = t.first in
        let b = t.second in
        record {
          first-size = ap length e ∙ (length-row xs i k (address_in (some (lab_row al i))) ∙ c.first-size);
          second-size = c.second-size;
          rest = first_rest a b c.rest f;
          agreeing = sym (agree-first a b f) ∙ c.agreeing;
          first = rw e (noted_more c.first first-note (first-here a b c.rest f) refl refl);
          second = c.second;
        }

  -- the second's
  module _ (q : r ≡ Second) where
    pub second-row : j * 4 + 4 ≤ length bl
    second-row = omega (arith, (s.second q).within, t.second.room)

    pub second-note : j * 2 + 1 < length ys
    second-note = omega (arith, (s.second q).within, t.second_notes, c.second-size)

    pub match-second : {ys' : List ℕ} → ys' ≡ with_row ys j k (address_in (some (lab_row bl j))) → Matching m al an n bl bn xs₀ ys₀ xs ys' i (j + 1) (k + 1)
    match-second {ys'} e =
        let f = s.second q in
        let a = t.first in
        let b = t.second in
        record {
          first-size = c.first-size;
          second-size = ap length e ∙ (length-row ys j k (address_in (some (lab_row bl j))) ∙ c.second-size);
          rest = second-rest a b c.rest f;
          agreeing = sym (agree-second a b f) ∙ c.agreeing;
          first = c.first;
          second = rw e (noted_more c.second second-note (second-here a b c.rest f) refl refl);
        }

  -- both have it
  module _ (q : r ≡ Both) where
    pub both-row-first : RowIn al i
    both-row-first = row-in t.first (s.both q).first

    pub both-row-second : RowIn bl j
    both-row-second = row-in t.second (s.both q).second

    pub both-note-first : i * 2 + 1 < length xs
    both-note-first = omega (arith, (s.both q).first, t.first_notes, c.first-size)

    pub both-note-second : j * 2 + 1 < length ys
    both-note-second = omega (arith, (s.both q).second, t.second_notes, c.second-size)

    module _ {w : O.Option ℕ} (d : w ≡ joined_as (lab_row al i) (lab_row bl j)) where
      pub match-both : {x : ℕ} {xs' ys' : List ℕ} → w ≡ Some x → xs' ≡ with_row xs i k x → ys' ≡ with_row ys j k x → Matching m al an n bl bn xs₀ ys₀ xs' ys' (i + 1) (j + 1) (k + 1)
      match-both {x} {xs'} {ys'} z e o =
          let f = s.both q in
          let a = t.first in
          let b = t.second in
          let u = at-false (lab_row al i) (lab_row bl j) (sym z ∙ d) in
          let h = both-here a b c.rest f in
          record {
            first-size = ap length e ∙ (length-row xs i k x ∙ c.first-size);
            second-size = ap length o ∙ (length-row ys j k x ∙ c.second-size);
            rest = both_rest a b c.rest f;
            agreeing = sym (agree-both a b f u.0) ∙ c.agreeing;
            first = rw e (noted_more c.first both-note-first h f.same u.1);
            second = rw o (noted_more c.second both-note-second h refl u.1);
          }

      pub match-apart : w ≡ None → Matches m al an n bl bn (Err i) xs ys
      match-apart z =
          let u = apart-true (lab_row al i) (lab_row bl j) (sym z ∙ d) in
          record { answer = sym (agree-apart t.first t.second (s.both q) u) ∙ c.agreeing; noted = λ o p. (never cc) }

  -- nothing is left
  pub match-all : r ≡ Over → Matches m al an n bl bn (Ok k) xs ys
  match-all q =
      let f = s.over q in
      let g = none_rest t.first t.second c.rest f in
      let y : i ≡ m = omega (arith, f.first, c.rest.first-in) in
      let z : j ≡ n = omega (arith, f.second, c.rest.second-in) in
      record {
        answer = sym (agree-over t.first t.second f) ∙ c.agreeing;
        noted = λ o p. (let w : k ≡ o = cc in record { count = sym w ∙ g; first = rw y at c.first; second = rw z at c.second });
      }
