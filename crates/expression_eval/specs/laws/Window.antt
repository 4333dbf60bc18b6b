-- Laws of the numbers of the rows ahead.
use Rattle.std.specs.Prelude.{◌≡◌, refl, List, ℕ, zero, suc, ◌+◌, ◌<◌, ◌%◌}
use Rattle.std.proofs.Common.{sym, ap, ap₂, ◌∙◌, add-zero, mod-eq_of_lt, mod-lt, arith}
use Rattle.std.proofs.Math.Nat.{mod-add-mod}
use Rattle.expression.specs.Words.{word}
use Rattle.expression.specs.Node.{row_offsets}
use Rattle.expression_eval.specs.inner.Window.{rows_ahead}

-- the row after the row at an offset
pub row-after : {a b : ℕ} (r o height : ℕ) → a ≡ (r + o) % height → b ≡ (a + 1) % height → b ≡ (r + (o + 1)) % height
row-after r o height e f =
    let g : r + o + 1 ≡ r + (o + 1) = omega arith in
    f ∙ ap (λ (n : ℕ). (n + 1) % height) e ∙ mod-add-mod (r + o) height 1 ∙ ap (λ (n : ℕ). n % height) g

-- of the four numbers, the one by an offset
by_offset : (r height o : ℕ) → r < height → o < row_offsets → word (rows_ahead r height) o ≡ (r + o) % height
by_offset r height zero h k = sym (rw (add-zero r) (mod-eq_of_lt h))
by_offset r height (suc zero) h k = refl
by_offset r height (suc (suc zero)) h k = refl
by_offset r height (suc (suc (suc zero))) h k = refl
by_offset r height (suc (suc (suc (suc o)))) h k = absurd (omega arith)

pub row-ahead : {rows : List ℕ} {k : ℕ} (r height o : ℕ) → r < height → o < row_offsets → rows ≡ rows_ahead r height → k ≡ o
    → (word rows k < height) × (word rows k ≡ (r + o) % height)
row-ahead {rows} {k} r height o h l e f =
    let g : word rows k ≡ (r + o) % height = ap₂ word e f ∙ by_offset r height o h l in
    (rw g (mod-lt (r + o) (omega arith)), g)
