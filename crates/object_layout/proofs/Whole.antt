-- Six buffers of zeros are the layout of the object with nothing. Assumes nothing.
use mathlib.Core.Path.{◌≡◌, sym, ◌∙◌}
use mathlib.Core.List.{List}
use Prim.Native.Nat.{ℕ}
use lib.ListN.{length}
use Rattle.rules.specs.Objects.{nothing}
use Rattle.rules.specs.Buffers.{six, zeros, lay_blocks, lay_words, lay_marks, lay_labels, lay_relocs, lay_names, layout}
use Rattle.rules.proofs.Rows.{lay-nil}

pub cleared : (bs ws ms ls rs ns bs' ws' ms' ls' rs' ns' : List ℕ)
    → bs' ≡ zeros (length bs) → ws' ≡ zeros (length ws) → ms' ≡ zeros (length ms)
    → ls' ≡ zeros (length ls) → rs' ≡ zeros (length rs) → ns' ≡ zeros (length ns)
    → six bs' ws' ms' ls' rs' ns' ≡ layout nothing (six bs ws ms ls rs ns)
unfolding lay_blocks lay_words lay_marks lay_labels lay_relocs lay_names
cleared bs ws ms ls rs ns bs' ws' ms' ls' rs' ns' b w m l r n =
    let b = b ∙ sym (lay-nil (length bs)) in
    let w = w ∙ sym (lay-nil (length ws)) in
    let m = m ∙ sym (lay-nil (length ms)) in
    let l = l ∙ sym (lay-nil (length ls)) in
    let r = r ∙ sym (lay-nil (length rs)) in
    let n = n ∙ sym (lay-nil (length ns)) in
    λ i. six (b i) (w i) (m i) (l i) (r i) (n i)
