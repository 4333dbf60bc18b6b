-- The rows that are written from the quotients of a run of rows are the definition's.
use Rattle.std.specs.Prelude.{◌≡◌}
use Rattle.std.proofs.Common.{sym, ◌∙◌, add-zero, add-suc, add_assoc, arith}
use Rattle.std.proofs.Math.Path.{ap, ap₂}
use mathlib.Core.List.{List, ◌++◌}
use Prim.Native.Nat.{ℕ, zero, suc, ◌+◌, ◌*◌, ◌<◌, ◌≤◌}
use Rattle.lists.specs.Count.{joined}
use Rattle.field.specs.Modulus.{Certificate}
use Rattle.field.specs.Element.{add4, sum4, element}
use Rattle.field.proofs.laws.Element.{sum4_cong}
use Rattle.field_batch.specs.inner.Quotients.{quotient_at}
use Rattle.lookup.specs.Lookups.{Lookups, lookup_count, tuple_count, tuple_start}
use Rattle.logup.specs.Column.{branches}
use Rattle.logup.specs.Rows.{place, fraction_at, row_sum, accumulator, row_words}
use Rattle.logup_column.specs.inner.Terms.{term}
use Rattle.logup_column.specs.laws.Terms.{terms_sum, joined_same}
use Rattle.logup_rows.specs.inner.Terms.{row_multiplicities, row_denominators}
use Rattle.logup_rows.specs.inner.Sums.{sum_from, fraction_in, row_sum_in, running, row_in}
use Rattle.logup_rows.specs.laws.Terms.{quotient_is, shifted}

module _ (p w : ℕ) (C : Certificate p w) (l : Lookups) (cs : List ℕ) (values : ℕ → List ℕ) (from k : ℕ) where
  abbrev size : ℕ
  size = tuple_start l.lookups (lookup_count l.lookups)

  abbrev qs : List ℕ
  qs = joined (quotient_at p w (joined (row_multiplicities p w l cs values) from k) (joined (row_denominators p w l cs values) from k)) 0 (k * size)

  fraction_is : (j i : ℕ) → j < k → i < lookup_count l.lookups → fraction_in p l.lookups qs (j * size) i ≡ fraction_at p w l cs values (from + j) i
  unfolding fraction_in sum_from fraction_at branches place
  fraction_is j i hj hi =
      sum4_cong p (λ c. element qs (j * size + tuple_start l.lookups i + c)) (term p w (place p w l cs values (from + j) i)) (tuple_count l.lookups i)
      (λ c hc. ap (element qs) (add_assoc (j * size) (tuple_start l.lookups i) c) ∙ quotient_is p w l cs values from k j i c hj hi hc)
      ∙ terms_sum p w (place p w l cs values (from + j) i) C

  sum_is : (j : ℕ) → j < k → row_sum_in p l.lookups qs (j * size) ≡ row_sum p w l cs values (from + j)
  unfolding row_sum_in row_sum
  sum_is j hj = sum4_cong p (fraction_in p l.lookups qs (j * size)) (fraction_at p w l cs values (from + j)) (lookup_count l.lookups) (λ i hi. fraction_is j i hj hi)

  module _ {before : List ℕ} (e : before ≡ accumulator p w l cs values from) where
    running_is : (j : ℕ) → j ≤ k → running p l.lookups qs size before j ≡ accumulator p w l cs values (from + j)
    unfolding running accumulator sum4
    running_is zero h = e ∙ ap (accumulator p w l cs values) (sym (add-zero from))
    running_is (suc j) h = ap₂ (add4 p) (running_is j (omega arith)) (sum_is j h) ∙ ap (accumulator p w l cs values) (sym (add-suc from j))

    row_is : (j : ℕ) → j < k → row_in p l.lookups qs size before j ≡ row_words p w l cs values (from + j)
    unfolding row_in row_words
    row_is j h =
        ap₂ (λ (a b : List ℕ). a ++ b) (running_is j (omega arith))
        (joined_same (fraction_in p l.lookups qs (j * size)) (fraction_at p w l cs values (from + j)) (lookup_count l.lookups) (λ i hi. fraction_is j i h hi))

    pub after_is : running p l.lookups qs size before k ≡ accumulator p w l cs values (from + k)
    after_is = running_is k (omega arith)

    pub rows_are : joined (row_in p l.lookups qs size before) 0 k ≡ joined (row_words p w l cs values) from k
    rows_are = joined_same (row_in p l.lookups qs size before) (λ j. row_words p w l cs values (from + j)) k row_is ∙ sym (shifted (row_words p w l cs values) from k)
